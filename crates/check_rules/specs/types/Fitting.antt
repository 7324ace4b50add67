-- Which types fit which: what may stand where a value of a type is wanted, and when two region
-- types agree.
use Rattle.std.specs.List.{list_all}
use Rattle.std.specs.Prelude.{Bool, List, None, Some, [], false, nat_lt, not, true, ℕ, ◌&&◌, ◌==◌, ◌||◌, ◌∷◌}
use Rattle.regent_tree.specs.Facts.{alike}
use Rattle.regent_tree.specs.StaticTypes.{Reach}
use Rattle.regent_tree.specs.declared.typing.StaticType.{StaticType}
use Rattle.regent_tree.specs.declared.typing.StaticType.TheVariants.{Index as index_type, Integer as integer_type, Ispace as ispace_type, Nothing as no_type, Partition as partition_type, Pointer as pointer_type, Region as region_type, Truth as truth_type, Unknown as unknown_type}
use Rattle.regent_tree.specs.Typing.{has_wild, position_of}
use Rattle.regent_tree.specs.declared.facts.Known.{Known}
use Rattle.regent_tree.specs.declared.facts.Term.{Term}
use Rattle.regent_tree.specs.declared.types.Kind.{Kind}
use Rattle.check_rules.specs.types.Sorts.{is_index, is_integer, is_partition, is_region, is_truth, is_unknown_type, same_kind}

-- ---- regions

-- `wild` on either side agrees with everything, and else the regions are compared as they are
-- written; `p[e]` isn't the same as any name
abbrev pub agrees_with : Term → Reach → Bool
agrees_with a None = true
agrees_with a (Some b) = alike a b

abbrev pub agree : Reach → Reach → Bool
agree None r = true
agree (Some a) r = agrees_with a r

abbrev pub agree_all : List Reach → List Reach → Bool
agree_all [] others = true
agree_all (a ∷ more) [] = true
agree_all (a ∷ more) (b ∷ others) = agree a b && agree_all more others

-- whether a type is of a region of this kind, field space and field space arguments
abbrev pub is_region_like : Kind → ℕ → List Reach → StaticType → Bool
is_region_like k s args (region_type j u others r) =
    same_kind k j && (s == u) && agree_all args others
is_region_like k s args t = false

-- ---- partitions

-- whether a type is of a partition of this parent, which is disjoint where that is asked
abbrev pub is_partition_like : Bool → ℕ → StaticType → Bool
is_partition_like disjoint parent (partition_type d r p) = (d || not disjoint) && (r == parent)
is_partition_like disjoint parent t = false

-- ---- pointers

-- whether a region lies within one of those that a list names
abbrev pub has_position : List Known → List Reach → Reach → Bool
has_position known targets a = nat_lt 0 (position_of known targets a)

-- A pointer into these regions fits an index of its kind. It fits a pointer type of its kind and field
-- space that has `wild` among its regions, or one for each region of the pointer that this derivably
-- lies in; `wild` lies in none.
abbrev pub pointer_fits : List Known → Kind → ℕ → List Reach → StaticType → Bool
pointer_fits known k s regions (index_type j) = same_kind k j
pointer_fits known k s regions (pointer_type j u args targets) =
    same_kind k j && (s == u)
    && (has_wild targets || list_all (has_position known targets) regions)
pointer_fits known k s regions t = false

-- ---- fitting

abbrev pub is_index_of : Kind → StaticType → Bool
is_index_of k (index_type j) = same_kind k j
is_index_of k t = false

abbrev pub is_space_of : Kind → StaticType → Bool
is_space_of k (ispace_type j) = same_kind k j
is_space_of k t = false

-- what fits among types that are known: an integer each integer type and index, an index its own
-- kind, a truth a truth, and collections the types that agree with theirs
abbrev pub fits_known : List Known → StaticType → StaticType → Bool
fits_known known (integer_type w) wanted = is_integer wanted || is_index wanted
fits_known known truth_type wanted = is_truth wanted
fits_known known (index_type k) wanted = is_index_of k wanted
fits_known known (pointer_type k s args regions) wanted = pointer_fits known k s regions wanted
fits_known known (ispace_type k) wanted = is_space_of k wanted
fits_known known (region_type k s args r) wanted = is_region_like k s args wanted
fits_known known (partition_type d r p) (partition_type asked parent own) =
    is_partition_like asked parent (partition_type d r p)
fits_known known (partition_type d r p) wanted = false
fits_known known no_type wanted = false
fits_known known unknown_type wanted = true

-- whether a type fits another; one that is unknown fits everything, and everything fits it
abbrev pub fits : List Known → StaticType → StaticType → Bool
fits known t wanted = is_unknown_type wanted || fits_known known t wanted

-- whether an argument's type fits a parameter's: whether regions and partitions are the right ones
-- is told by the rules on them
abbrev pub fits_param : List Known → StaticType → StaticType → Bool
fits_param known t wanted =
    fits known t wanted || (is_region t && is_region wanted)
    || (is_partition t && is_partition wanted)
