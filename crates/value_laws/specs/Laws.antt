-- The law of expressions: values fit their static types.
use Rattle.std.specs.List.{All}
use Rattle.std.specs.Prelude.{List, None, ◌≡◌}
use Rattle.regent_tree.specs.Evaluation.{value}
use Rattle.regent_tree.specs.Laws.{Shape}
use Rattle.regent_tree.specs.Limits.{KeepsLimit, parts_of_expression}
use Rattle.regent_tree.specs.Running.{Here, State}
use Rattle.regent_tree.specs.Syntax.{Expression, TaskTree}
use Rattle.regent_tree.specs.Typing.{type_of}
use Rattle.check_rules.specs.first.FirstInExpressions.{first_in_expression}
use Rattle.check_rules.specs.scopes.Sound.{IsSound}
use Rattle.check_laws.specs.SoundScopes.{IsSoundScope}
use Rattle.expression_laws.specs.Writing.{IsWritten}
use Rattle.value_laws.specs.Fitting.{Fits}
use Rattle.value_laws.specs.Keeping.{AnswersFit, KeepsFit, StateFits}
use Rattle.value_laws.specs.Shapes.{AreRootsOfSpaces}
use Rattle.value_laws.specs.Spaces.{AreSpaced, HasSpacedDeclarations}

-- A place of a body: the declarations have no breach, all names have known types whose field space arguments
-- are as declared, each root is as its field space declares it, and calls of arguments that fit give what fits.
pub record IsPlaceOfFit (roots : List Shape) (h : Here) : Type 0 where
  pub sound : IsSound h.tree
  pub declared : HasSpacedDeclarations h.tree
  pub scope : IsSoundScope h.scope
  pub spaced : AreSpaced h.tree h.scope.names
  pub rooted : AreRootsOfSpaces h.tree roots
  pub answers : AnswersFit h.tree h.calls

-- An expression of which no breach is told gives a value that fits its static type, over names that fit and a
-- store that fits; the names and the store fit still, and the store does where it faults.
abbrev pub ValuesFit : Type 0
ValuesFit = (task : TaskTree) (roots : List Shape) (h : Here) → IsPlaceOfFit roots h →
    (e : Expression) → IsWritten e → All KeepsLimit (parts_of_expression e) →
    first_in_expression h.tree task h.scope e ≡ None →
    (u : State) → StateFits h.tree roots h.scope.names u →
    KeepsFit h.tree roots h.scope.names (Fits roots h.scope.names (type_of h.tree h.scope e)) (value h e u)
