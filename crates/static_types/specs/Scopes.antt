-- What names in a body stand for.
use Rattle.std.specs.Prelude.{List, Some, []}
use Rattle.regent_tree.specs.Scopes.{Scope, bound_to}
use Rattle.regent_tree.specs.StaticTypes.{Looking}
use Rattle.regent_tree.specs.declared.facts.Term.TheVariants as term
use Rattle.regent_tree.specs.declared.typing.Bound.{Bound}

abbrev pub in_names : List Bound → Looking
in_names names n = Some (term.Name (bound_to names n).number)

-- A scope of which the names alone are told. The type of an element asks for no more.
abbrev pub scope_naming : List Bound → Scope
scope_naming names = record { names = names; known = []; next = 0 }
