-- Rule 5, Place: where a value has to stand there is a region, a partition or an index space; or a
-- variable of one of these types doesn't begin as it must.
use Rattle.std.specs.List.{list_any}
use Rattle.std.specs.Prelude.{Bool, List, None, Option, Some, false, not, true, ◌&&◌, ◌||◌}
use Rattle.regent_tree.specs.declared.typing.Bound.{Bound}
use Rattle.regent_tree.specs.declared.typing.StaticType.{StaticType}
use Rattle.regent_tree.specs.Syntax.{Initializer, Tree, access_expr, at_step, no_step, plain_initializer, region_initializer}
use Rattle.check_rules.specs.rules.Partitions.{is_difference}
use Rattle.check_rules.specs.types.TypedForms.{TypedForm}
use Rattle.check_rules.specs.types.Sorts.{is_collection, is_number, is_partition, is_region, is_truth, is_unknown_type}
use Rattle.check_rules.specs.rules.Standing.{Spot, Standing, domain_spot, param_spot, space_spot, standing_in, typed_spot}

-- a place for a number, truth or pointer alone
abbrev pub is_value_type : StaticType → Bool
is_value_type t = is_number t || is_truth t

abbrev pub is_value_spot : Spot → Bool
is_value_spot space_spot = false
is_value_spot domain_spot = false
is_value_spot (typed_spot t) = is_value_type t
is_value_spot (param_spot t) = is_value_type t
is_value_spot spot = true

-- a region, partition or index space stands at such a place
abbrev pub misplaces : Standing → Bool
misplaces s = is_value_spot s.spot && is_collection s.type

abbrev pub misplaces_in : Tree → TypedForm → Bool
misplaces_in tree typed_form = list_any misplaces (standing_in tree typed_form)

-- ---- variables

-- how a variable that is a region begins: with a new region, or with a child of a partition
abbrev pub begins_region : Initializer → Bool
begins_region (region_initializer e u) = true
begins_region (plain_initializer (access_expr p (at_step e no_step))) = true
begins_region initializer = false

-- how one that is a partition begins: with a partition operation
abbrev pub begins_partition : List Bound → Initializer → Bool
begins_partition names (region_initializer e u) = false
begins_partition names (plain_initializer e) = is_difference names e
begins_partition names initializer = true

-- a variable of a type begins with something else, whose type is known
abbrev pub has_wrong_initializer : List Bound → StaticType → StaticType → Initializer → Bool
has_wrong_initializer names wanted t initializer = not (is_unknown_type t)
    && ((is_region wanted && not (is_region t && begins_region initializer))
    || (is_partition wanted && not (begins_partition names initializer)))

-- a collection has no initializer
abbrev pub lacks_initializer : StaticType → Option Initializer → Bool
lacks_initializer wanted None = is_collection wanted
lacks_initializer wanted (Some initializer) = false
