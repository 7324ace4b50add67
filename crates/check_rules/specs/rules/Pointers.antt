-- Rule 13, Pointer: `x.f` where `wild` is among the regions of x; a written pointer type with `wild`
-- among its regions, or with a name there of what is no region of its field space and kind.
use Rattle.std.specs.List.{list_any}
use Rattle.std.specs.Prelude.{Bool, List, false, not, true, ◌&&◌, ◌==◌, ◌||◌}
use Rattle.regent_tree.specs.declared.typing.Bound.{Bound}
use Rattle.regent_tree.specs.StaticTypes.{place_of_space}
use Rattle.regent_tree.specs.declared.typing.StaticType.{StaticType}
use Rattle.regent_tree.specs.declared.typing.StaticType.TheVariants.{Region as region_type}
use Rattle.regent_tree.specs.Syntax.{Tree}
use Rattle.regent_tree.specs.Typing.{has_wild, reaches_of}
use Rattle.regent_tree.specs.declared.types.PointerTerm.{PointerTerm}
use Rattle.regent_tree.specs.declared.types.Ref.{Ref}
use Rattle.regent_tree.specs.declared.types.Ref.TheVariants.{Named, Wild}
use Rattle.regent_tree.specs.declared.types.TypeTerm.{TypeTerm}
use Rattle.regent_tree.specs.declared.types.TypeTerm.TheVariants as typed
use Rattle.regent_tree.specs.Lookup.{has_space}
use Rattle.check_rules.specs.types.Lookup.{names_a}
use Rattle.check_rules.specs.types.TypedForms.{TypedForm, Taking, typed_access, field_of}
use Rattle.check_rules.specs.types.Sorts.{same_kind}

-- ---- types

-- whether a type is of a region of a pointer type's kind and field space, whatever its arguments; a
-- field space that isn't there fits all
abbrev pub is_region_in : Tree → PointerTerm → StaticType → Bool
is_region_in tree p (region_type k s args r) = same_kind p.kind k
    && (not (has_space tree p.space.name) || (place_of_space tree p.space.name == s))
is_region_in tree p t = false

-- `wild` stands in a pointer type's own list, or a name that isn't bound to a region of its field
-- space and kind
abbrev pub is_wrong_region_of_pointer : Tree → List Bound → PointerTerm → Ref → Bool
is_wrong_region_of_pointer tree names p Wild = true
is_wrong_region_of_pointer tree names p (Named n) = not (names_a (is_region_in tree p) names n)

abbrev pub wrong_region_in_type : Tree → List Bound → TypeTerm → Bool
wrong_region_in_type tree names (typed.Pointer p) = list_any (is_wrong_region_of_pointer tree names p) p.regions
wrong_region_in_type tree names t = false

-- ---- expressions

-- a field is taken of a pointer whose list holds `wild`
abbrev pub takes_of_wild : Taking → Bool
takes_of_wild (field_of t f) = has_wild (reaches_of t)
takes_of_wild taking = false

abbrev pub takes_of_wild_in : TypedForm → Bool
takes_of_wild_in (typed_access n taken) = list_any takes_of_wild taken
takes_of_wild_in typed_form = false
