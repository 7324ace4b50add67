-- Rule 14, Spaces: a region argument of a call or of a field space use has another kind, field
-- space or field space arguments than the parameter, whose type is read with the arguments.
use Rattle.std.specs.List.{list_any}
use Rattle.std.specs.Prelude.{Bool, List, [], false, map, not, ◌&&◌, ◌||◌, ◌∷◌}
use Rattle.regent_tree.specs.declared.typing.Bound.{Bound}
use Rattle.regent_tree.specs.declared.typing.StaticType.{StaticType}
use Rattle.regent_tree.specs.declared.typing.StaticType.TheVariants.{Region as region_type, Unknown as unknown_type}
use Rattle.regent_tree.specs.Syntax.{Tree}
use Rattle.regent_tree.specs.Typing.{put}
use Rattle.regent_tree.specs.declared.types.Ref.{Ref}
use Rattle.regent_tree.specs.declared.types.Ref.TheVariants.{Named, Wild}
use Rattle.regent_tree.specs.declared.types.SpaceUse.{SpaceUse}
use Rattle.regent_tree.specs.declared.types.TypeTerm.{TypeTerm}
use Rattle.check_rules.specs.rules.Counts.{uses_of}
use Rattle.check_rules.specs.types.Fitting.{is_region_like}
use Rattle.regent_tree.specs.Lookup.{space_used, type_named}
use Rattle.check_rules.specs.types.Params.{params_beside, types_in_order}
use Rattle.check_rules.specs.types.TypedForms.{Calling}
use Rattle.check_rules.specs.types.Sorts.{is_region, is_unknown_type}

-- the type of what a field space argument or a pointer's region names; of `wild` it is unknown
abbrev pub type_of_ref : List Bound → Ref → StaticType
type_of_ref names Wild = unknown_type
type_of_ref names (Named n) = type_named names n

-- A region type's arguments, read with the arguments of the call or use in whose list it stands.
abbrev pub differs_from : List StaticType → StaticType → StaticType → Bool
differs_from types (region_type k s args r) t = not (is_region_like k s (map (put types) args) t)
differs_from types wanted t = not (is_unknown_type wanted)

-- A region's kind, field space or field space arguments are others than the parameter's, read with
-- all the arguments; what isn't a region is told by the rule on names.
abbrev pub differs : List StaticType → StaticType → StaticType → Bool
differs types wanted t = is_region t && differs_from types wanted t

abbrev pub differ_in : List StaticType → List StaticType → List StaticType → Bool
differ_in types [] ts = false
differ_in types (p ∷ ps) [] = false
differ_in types (p ∷ ps) (t ∷ ts) = differs types p t || differ_in types ps ts

-- ---- types

-- The types of a field space's parameters, unknown where a wrong name or count leaves none. One that
-- breaches this rule itself says what is written: field spaces may name each other in circles.
abbrev pub space_params : Tree → SpaceUse → List StaticType
space_params tree u = types_in_order (params_beside tree (space_used tree u).params)

abbrev pub misfits_use : Tree → List Bound → SpaceUse → Bool
misfits_use tree names u = let types = map (type_of_ref names) u.args in
    differ_in types (space_params tree u) types

abbrev pub misfits_in_type : Tree → List Bound → TypeTerm → Bool
misfits_in_type tree names t = list_any (misfits_use tree names) (uses_of t)

-- ---- calls

-- A region argument differs from the region parameter at its place. Where the parameter is no region,
-- that is told by the rules on types and places.
abbrev pub misfit_in : List StaticType → List StaticType → List StaticType → Bool
misfit_in types [] ts = false
misfit_in types (p ∷ ps) [] = false
misfit_in types (p ∷ ps) (t ∷ ts) = (is_region p && differs types p t) || misfit_in types ps ts

abbrev pub misfits_call : List StaticType → Calling → Bool
misfits_call params c = misfit_in c.args params c.args
