-- An expression of which nothing is told has a known type, which is the one that the meaning gives it.
use Rattle.std.proofs.Common.{None, ◌≡◌}
use Rattle.regent_tree.specs.Scopes.{Scope}
use Rattle.regent_tree.specs.Syntax.{Expression, TaskTree, Tree}
use Rattle.regent_tree.specs.Typing.{type_of}
use Rattle.check_rules.specs.first.FirstInExpressions.{first_in_expression}
use Rattle.check_rules.specs.scopes.Sound.{IsSound}
use Rattle.check_rules.specs.types.KnownTypes.{known_type}
use Rattle.check_laws.proofs.Forms.{expressions_are_known}
use Rattle.check_laws.specs.SoundScopes.{IsKnown, IsSoundScope}

pub known_as_meant : (tree : Tree) (task : TaskTree) (s : Scope) (e : Expression) →
    IsSound tree → IsSoundScope s → first_in_expression tree task s e ≡ None →
    IsKnown s (known_type tree s e) × (known_type tree s e ≡ type_of tree s e)
known_as_meant tree task s e sound scope none =
    let k = expressions_are_known tree task s e sound scope none in (k.known, k.type)
