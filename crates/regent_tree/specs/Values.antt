-- Values, and the numbers that fields keep of them.
use Rattle.std.specs.Prelude.{ℕ, zero, suc, ℤ, pos, negsuc, ◌+◌, ◌*◌, ◌^◌, ◌/◌, ◌%◌, ◌==◌, List, [], ◌∷◌, get_or, Bool, true, false, not, cond, nat_abs}
use Rattle.std.specs.Ordering.{int_eq}
use Rattle.lane_kernels.specs.declared.numbers.Width.{Width}
use Rattle.lane_kernels.specs.declared.numbers.Width.TheVariants.{W32, W64}
use Rattle.lane_kernels.specs.declared.numbers.FieldKind.{FieldKind}
use Rattle.lane_kernels.specs.declared.numbers.FieldKind.TheVariants.{Int32, Int64, Truth, Index, Pointer}
use Rattle.plain_values.specs.Points.{has}

-- a region: its root's place in the store, and a rising list of that root's points
pub record Region : Type 0 where
  pub root : ℕ
  pub points : List ℕ

-- a partition: a root's place, whether no two colours share a point, and the points of each colour
pub record Partition : Type 0 where
  pub root : ℕ
  pub disjoint : Bool
  pub sets : List (List ℕ)

-- where a pointer goes: nowhere, or to the point with a number through a position of its type's
-- list of regions; position 0 is that of a pointer that was converted to a type with `wild`
pub data Target : Type 0 where
  null_target : Target
  point_target : ℕ → ℕ → Target

-- A value. A pointer goes with the regions that its type's list has where the type is written: a
-- child `p[k]` there is the one that k named then.
pub data Value : Type 0 where
  a_number : Width → ℤ → Value
  a_truth : Bool → Value
  an_index : ℤ → Value
  a_pointer : Target → List Region → Value
  a_space : ℕ → Value
  a_region : Region → Value
  a_partition : Partition → Value

-- ---- what a value is, where it is of the kind that its place needs
--
-- Each of these gives something for a value of another kind too, since the meaning is total. No
-- accepted program comes there: where a number, a truth, a space, a region, a partition or a pointer is
-- taken, an expression of that type stands, and a pointer in the place of a number is made its point
-- number before it is taken (`standing`).

abbrev pub no_region : Region
no_region = record { root = 0; points = [] }

abbrev pub truth_of : Value → Bool
truth_of (a_truth b) = b
truth_of _ = false

abbrev pub number_of : Value → ℤ
number_of (a_number w z) = z
number_of (an_index z) = z
number_of _ = pos 0

abbrev pub width_of : Value → Width
width_of (a_number w z) = w
width_of _ = W64

abbrev pub size_of : Value → ℕ
size_of (a_space n) = n
size_of _ = 0

abbrev pub region_of : Value → Region
region_of (a_region r) = r
region_of _ = no_region

abbrev pub partition_of : Value → Partition
partition_of (a_partition p) = p
partition_of _ = record { root = 0; disjoint = false; sets = [] }

abbrev pub target_of : Value → Target
target_of (a_pointer t regions) = t
target_of _ = null_target

abbrev pub regions_of : Value → List Region
regions_of (a_pointer t regions) = regions
regions_of _ = []

-- ---- pointers

-- whether a pointer is null, and whether it goes to a point
abbrev pub is_null_target : Target → Bool
is_null_target null_target = true
is_null_target (point_target n i) = false

abbrev pub goes_to : ℕ → Target → Bool
goes_to n null_target = false
goes_to n (point_target m j) = n == m

-- two pointers are equal where both are null or their points are; positions aren't compared
abbrev pub same_target : Target → Target → Bool
same_target null_target u = is_null_target u
same_target (point_target n i) u = goes_to n u

-- whether a list of points has the point of a number
abbrev pub holds : List ℕ → ℤ → Bool
holds xs (pos n) = has xs n
holds xs (negsuc n) = false

-- the pointer to a number's point through the first of these regions that holds it, or null; the
-- positions go on from one that is given
abbrev pub first_holding : ℕ → List Region → ℤ → Target
first_holding i [] z = null_target
first_holding i (r ∷ rs) z =
    cond (holds r.points z) (point_target (nat_abs z) (suc i)) (first_holding (suc i) rs z)

-- a pointer with each position made the one that a list has for it; position 0 and null stay
abbrev pub moved : List ℕ → Target → Target
moved places null_target = null_target
moved places (point_target n zero) = point_target n 0
moved places (point_target n (suc i)) = point_target n (get_or places i 0)

-- ---- the numbers that fields keep

-- what a field keeps of a pointer: -1 for null, else position * 2^32 + point number
abbrev pub kept_target : Target → ℤ
kept_target null_target = negsuc 0
kept_target (point_target n i) = pos (i * 2 ^ 32 + n)

abbrev pub kept_truth : Bool → ℤ
kept_truth true = pos 1
kept_truth false = pos 0

-- the number that a field keeps of a value; no field keeps a space, a region or a partition
abbrev pub kept_number : Value → ℤ
kept_number (a_number w z) = z
kept_number (a_truth b) = kept_truth b
kept_number (an_index z) = z
kept_number (a_pointer t regions) = kept_target t
kept_number _ = pos 0

-- the pointer that a kept number means
abbrev pub target_kept : ℤ → Target
target_kept (pos n) = point_target (n % 2 ^ 32) (n / 2 ^ 32)
target_kept (negsuc n) = null_target

-- the value that a kept number means in a field of a kind; a pointer goes with these regions
abbrev pub meant : FieldKind → List Region → ℤ → Value
meant Int32 regions z = a_number W32 z
meant Int64 regions z = a_number W64 z
meant Truth regions z = a_truth (not (int_eq z (pos 0)))
meant Index regions z = an_index z
meant Pointer regions z = a_pointer (target_kept z) regions

-- the number that a new field keeps: 0, false or null
abbrev pub kept_zero : FieldKind → ℤ
kept_zero Pointer = negsuc 0
kept_zero _ = pos 0
