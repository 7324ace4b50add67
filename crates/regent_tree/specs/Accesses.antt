-- Steps on values that go through pointers: what a pointer stands for and aims at, conversions, and
-- the steps of an access.
use Rattle.std.specs.Prelude.{ℕ, zero, suc, ℤ, pos, negsuc, List, [], ◌∷◌, map, length, get_or, Bool, true, false, Some, None, nat_lt}
use Rattle.lane_kernels.specs.declared.numbers.Mode.TheVariants.{Read}
use Rattle.regent_tree.specs.declared.facts.Term.{Term}
use Rattle.regent_tree.specs.declared.facts.Term.TheVariants as term
use Rattle.regent_tree.specs.declared.outcome.FaultKind.{FaultKind}
use Rattle.regent_tree.specs.declared.outcome.FaultKind.TheVariants.{OutOfRegion, NullPointer, BadColor}
use Rattle.regent_tree.specs.declared.types.PointerTerm.{PointerTerm}
use Rattle.regent_tree.specs.Syntax.{Name}
use Rattle.plain_values.specs.Points.{has}
use Rattle.lane_kernels.specs.Numbers.{wrapped}
use Rattle.regent_tree.specs.Values.{Value, a_number, an_index, a_pointer, a_space, a_region, a_partition, Target, null_target, point_target, Region, Partition, no_region, number_of, region_of, target_of, moved, meant}
use Rattle.regent_tree.specs.Store.{read_at}
use Rattle.regent_tree.specs.StaticTypes.{Reach, field_type, field_place, field_kind, written_pointer}
use Rattle.regent_tree.specs.declared.typing.StaticType.{StaticType}
use Rattle.regent_tree.specs.declared.typing.StaticType.TheVariants.{Integer as integer_type, Index as index_type, Pointer as pointer_type, Region as region_type}
use Rattle.regent_tree.specs.Scopes.{Scope, bound_as, in_scope}
use Rattle.regent_tree.specs.Typing.{reaches_of, positions}
use Rattle.regent_tree.specs.Running.{Here, Run, given, ◌>>=◌, state, fault, if_true, touch_at}

-- ---- pointers

-- what stands for a value in arithmetic and the like: a pointer's point number, and null is a fault
abbrev pub standing_target : Here → Target → Run Value
standing_target h null_target = fault h NullPointer
standing_target h (point_target n i) = given (an_index (pos n))

abbrev pub standing : Here → Value → Run Value
standing h (a_pointer t regions) = standing_target h t
standing h v = given v

-- the regions that a type names, where its names have values
abbrev pub region_bound : Scope → List Value → Term → Region
region_bound s names (term.Name i) =
    region_of (get_or names (bound_as s.names i).place (a_region no_region))
region_bound s names (term.Child p c) = no_region

abbrev pub region_reached : Scope → List Value → Reach → Region
region_reached s names (Some t) = region_bound s names t
region_reached s names None = no_region

abbrev pub regions_reached : Scope → List Value → List Reach → List Region
regions_reached s names reaches = map (region_reached s names) reaches

-- the regions that a pointer type names where it is written
abbrev pub regions_written : Here → PointerTerm → Run (List Region)
regions_written h t = do
  s ← state
  given (regions_reached h.scope s.names (reaches_of (written_pointer h.tree (in_scope h.scope) t)))

-- a value of a type where a number or index type is wanted, or a pointer type whose list has these
-- regions: a number is wrapped, and a pointer's position goes to where its region lies
abbrev pub converted : Here → StaticType → StaticType → List Region → Value → Run Value
converted h from (integer_type w) regions v = given (a_number w (wrapped w (number_of v)))
converted h from (index_type k) regions v = do
  u ← standing h v
  given (an_index (number_of u))
converted h from (pointer_type k s args reaches) regions v = given (a_pointer
    (moved (positions h.scope.known (reaches_of from) reaches) (target_of v)) regions)
converted h from _ regions v = given v

-- what a pointer aims at: a point of a root, or a fault
pub data Aim : Type 0 where
  hits : ℕ → ℕ → Aim
  misses : FaultKind → Aim

abbrev pub aimed_in : Bool → Region → ℕ → Aim
aimed_in true r n = hits r.root n
aimed_in false r n = misses OutOfRegion

-- through a position of a list of regions: null is a fault, and so is a point that isn't in the
-- position's region; position 0 has no region
abbrev pub aimed_through : List Region → Target → Aim
aimed_through regions null_target = misses NullPointer
aimed_through regions (point_target n zero) = misses OutOfRegion
aimed_through regions (point_target n (suc i)) =
    let r = get_or regions i no_region in
    aimed_in (has r.points n) r n

abbrev pub aimed : Value → Aim
aimed (a_pointer t regions) = aimed_through regions t
aimed _ = misses NullPointer

-- ---- accesses

-- the field space of a pointer's or a region's type, and its arguments
abbrev pub space_in : StaticType → ℕ
space_in (pointer_type k s args regions) = s
space_in (region_type k s args r) = s
space_in _ = 0

abbrev pub args_in : StaticType → List Reach
args_in (pointer_type k s args regions) = args
args_in (region_type k s args r) = args
args_in _ = []

-- the value that a kept number means in a field of a type
abbrev pub meant_in : Here → StaticType → Name → List Value → ℤ → Value
meant_in h t f names z =
    meant (field_kind h.tree (space_in t) (field_place h.tree (space_in t) f))
    (regions_reached h.scope names (reaches_of (field_type h.tree (space_in t) (args_in t) f))) z

-- the field of what a pointer of a type aims at
abbrev pub read_field : Here → StaticType → Name → Aim → Run Value
read_field h t f (misses k) = fault h k
read_field h t f (hits root n) = do
  let place = field_place h.tree (space_in t) f
  _ ← touch_at root place n Read
  s ← state
  given (meant_in h t f s.names (read_at s.store root place n))

-- `x.f`: of a pointer its field, of a partition its colours
abbrev pub take_field : Here → StaticType → Name → Value → Run Value
take_field h t f (a_partition p) = given (a_space (length p.sets))
take_field h t f v = read_field h t f (aimed v)

-- `p[z]`: a number that isn't a colour is a fault
abbrev pub take_child : Here → Partition → ℤ → Run Value
take_child h p (pos c) = if_true (nat_lt c (length p.sets))
    (given (a_region (record { root = p.root; points = get_or p.sets c [] })))
    (fault h BadColor)
take_child h p (negsuc c) = fault h BadColor

-- `r[z]`: the pointer to that point; a number that isn't in the region is a fault
abbrev pub take_point : Here → Region → ℤ → Run Value
take_point h r (pos n) = if_true (has r.points n)
    (given (a_pointer (point_target n 1) (r ∷ [])))
    (fault h OutOfRegion)
take_point h r (negsuc n) = fault h OutOfRegion

abbrev pub take_element : Here → ℤ → Value → Run Value
take_element h z (a_region r) = take_point h r z
take_element h z (a_partition p) = take_child h p z
take_element h z v = given v
