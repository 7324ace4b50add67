-- What names may stand for where there may be breaches.
use Rattle.std.specs.Prelude.{Bool, bytes_eq, codes, true, ◌&&◌, List}
use Rattle.regent_tree.specs.Lookup.{has_field, is_bound, type_named}
use Rattle.regent_tree.specs.Syntax.{Name, Tree}
use Rattle.regent_tree.specs.declared.typing.Bound.{Bound}
use Rattle.regent_tree.specs.declared.typing.StaticType.{StaticType}
use Rattle.regent_tree.specs.declared.typing.StaticType.TheVariants.{Region as region_type}
use Rattle.check_rules.specs.types.Sorts.{may_be}

-- whether a name is bound to a thing of a sort; where its type is unknown, it may be
abbrev pub names_a : (StaticType → Bool) → List Bound → Name → Bool
names_a sort names n = is_bound names n && may_be sort (type_named names n)

-- whether a region's field space has a field; of what isn't a region nothing is said
abbrev pub region_has : Tree → StaticType → Name → Bool
region_has tree (region_type k s args r) f = has_field tree s f
region_has tree t f = true

-- "colors": what can be asked of a partition
abbrev pub is_colors : Name → Bool
is_colors n = bytes_eq n (codes "colors")
