-- What names stand for: names in scope, and tasks, field spaces, aliases and fields of a program.
use Rattle.std.specs.List.{list_any}
use Rattle.std.specs.Prelude.{Bool, List, bytes_eq, false, ℕ}
use Rattle.regent_tree.specs.declared.program.FieldSpace.{FieldSpace}
use Rattle.regent_tree.specs.declared.types.Param.{Param}
use Rattle.regent_tree.specs.declared.types.SpaceUse.{SpaceUse}
use Rattle.regent_tree.specs.declared.typing.Bound.{Bound}
use Rattle.regent_tree.specs.declared.typing.StaticType.{StaticType}
use Rattle.regent_tree.specs.Scopes.{bound_to}
use Rattle.regent_tree.specs.StaticTypes.{place_of_space, space_at, spaces_of}
use Rattle.regent_tree.specs.Syntax.{ItemForm, ItemTree, Name, Tree, alias_item, task_item}

-- ---- names in scope

abbrev pub is_bound : List Bound → Name → Bool
is_bound names n = list_any (λ (b : Bound). bytes_eq b.name n) names

abbrev pub type_named : List Bound → Name → StaticType
type_named names n = (bound_to names n).static_type

-- ---- names of the whole text

abbrev pub is_alias : Name → ItemForm → Bool
is_alias n (alias_item m) = bytes_eq m n
is_alias n _ = false

abbrev pub is_task : Name → ItemForm → Bool
is_task n (task_item t) = bytes_eq t.name n
is_task n _ = false

abbrev pub has_item : Tree → (ItemForm → Bool) → Bool
has_item tree test = list_any (λ (i : ItemTree). test i.form) tree

abbrev pub has_alias : Tree → Name → Bool
has_alias tree n = has_item tree (is_alias n)

abbrev pub has_task : Tree → Name → Bool
has_task tree n = has_item tree (is_task n)

abbrev pub has_space : Tree → Name → Bool
has_space tree n = list_any (λ (s : FieldSpace). bytes_eq s.name n) (spaces_of tree)

-- the field space that a use names
abbrev pub space_used : Tree → SpaceUse → FieldSpace
space_used tree u = space_at tree (place_of_space tree u.name)

-- ---- fields

abbrev pub has_param : List Param → Name → Bool
has_param params n = list_any (λ (p : Param). bytes_eq p.name n) params

-- whether the field space at a place has a field
abbrev pub has_field : Tree → ℕ → Name → Bool
has_field tree s f = has_param (space_at tree s).fields f
