-- Laws of programs without a breach.
use Rattle.std.specs.Prelude.{Contains, None, [], ◌≡◌}
use Rattle.regent_tree.specs.Scopes.{Scope, scope_of}
use Rattle.regent_tree.specs.Syntax.{Expression, TaskTree, Tree}
use Rattle.regent_tree.specs.Typing.{scope_after_block, type_of}
use Rattle.check_rules.specs.scopes.Bodies.{body_scope}
use Rattle.check_rules.specs.Breaches.{breaches}
use Rattle.check_rules.specs.first.FirstInExpressions.{first_in_expression}
use Rattle.check_rules.specs.first.FirstInStatements.{first_of_form, first_within}
use Rattle.check_rules.specs.types.KnownTypes.{known_type, typed_form_of}
use Rattle.check_rules.specs.scopes.Sound.{IsSound, StandsIn}
use Rattle.check_rules.specs.scopes.Variables.{known_scope_after_block}
use Rattle.check_rules.specs.scopes.Visits.{Visit, heads_of, visits}
use Rattle.check_laws.specs.MeantForms.{meant_form_of}
use Rattle.check_laws.specs.MeantVisits.{expressions_at, meant_visits}
use Rattle.check_laws.specs.SoundScopes.{IsKnown, IsSoundScope}

-- An expression's type is known in a scope, and it and the types of its parts are those that the
-- meaning of programs gives them there.
pub record IsAsMeant (tree : Tree) (s : Scope) (e : Expression) : Type 0 where
  pub known : IsKnown s (known_type tree s e)
  pub type : known_type tree s e ≡ type_of tree s e
  pub form : typed_form_of tree s e ≡ meant_form_of tree s e

-- Where no breach is told of an expression it is as the meaning has it.
abbrev pub ExpressionsAreKnown : Type 0
ExpressionsAreKnown = (tree : Tree) (task : TaskTree) (s : Scope) (e : Expression) →
    IsSound tree → IsSoundScope s → first_in_expression tree task s e ≡ None →
    IsAsMeant tree s e

-- In a program without a breach the scope in which a body begins, and the one after it, are those of
-- the meaning.
abbrev pub BodiesAreMeant : Type 0
BodiesAreMeant = (tree : Tree) (t : TaskTree) → breaches tree ≡ [] → StandsIn tree t →
    (body_scope tree t ≡ scope_of tree t)
    × (known_scope_after_block tree (body_scope tree t) t.body ≡ scope_after_block tree (scope_of tree t) t.body)

-- So is the scope at each of its statements, in the blocks of loops and of `if` too.
abbrev pub StatementsAreMeant : Type 0
StatementsAreMeant = (tree : Tree) → breaches tree ≡ [] → visits tree ≡ meant_visits tree

-- In that scope all is known, and each expression in the statement is as the meaning has it there.
abbrev pub AllIsKnown : Type 0
AllIsKnown = (tree : Tree) (v : Visit) → breaches tree ≡ [] → Contains (meant_visits tree) v →
    IsSoundScope v.scope
    × ((e : Expression) → Contains (expressions_at v.scope.names v.form) e → IsAsMeant tree v.scope e)

-- Nothing is told of a statement: no rule is breached by what stands in it, by the expressions that stand in it,
-- or in its blocks.
pub record IsWithoutBreach (tree : Tree) (v : Visit) : Type 0 where
  pub scope : IsSoundScope v.scope
  pub form : first_of_form tree v.task v.scope v.form ≡ None
  pub within : first_within tree v.task v.scope v.form ≡ None
  pub heads : (e : Expression) → Contains (heads_of v.scope.names v.form) e → first_in_expression tree v.task v.scope e ≡ None

-- In a program without a breach so it is at each place where a statement stands, in the scope that the meaning
-- has there.
abbrev pub PlacesAreWithoutBreach : Type 0
PlacesAreWithoutBreach = (tree : Tree) (v : Visit) → breaches tree ≡ [] → Contains (meant_visits tree) v → IsWithoutBreach tree v
