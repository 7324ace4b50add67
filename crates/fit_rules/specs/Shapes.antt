-- The shapes of values at a place of compiled code, and what is of a shape.
use Rattle.std.specs.Prelude.{◌≡◌, ◌≢◌, ◌⊎◌, ℕ, ℤ, pos, ◌<◌, ◌≤◌, List, [], ◌∷◌, Bool, true, Option, Some, None, length, slice_get}
use Rattle.lane_kernels.specs.declared.numbers.Width.{Width}
use Rattle.lane_kernels.specs.declared.numbers.Width.TheVariants.{W64}
use Rattle.lane_kernels.specs.Numbers.{FitsWidth}
use Rattle.partitions.specs.Laws.{NoneShared}
use Rattle.plain_values.specs.Points.{IsPoints, has}
use Rattle.regent_tree.specs.Values.{Target, null_target, point_target, target_kept}
use Rattle.machine_terms.specs.declared.value.PartitionValue.{PartitionValue}
use Rattle.machine_terms.specs.declared.value.RegionValue.{RegionValue}
use Rattle.machine_terms.specs.declared.value.Value.{Value}
use Rattle.machine_terms.specs.declared.value.Value.TheVariants as value
use Rattle.machine_terms.specs.Pointers.{region_in}
use Rattle.machine_terms.specs.Regions.{coloured, partition_in, sets_of}

-- ---- lists

abbrev pub Among : {A : Type 0} → List A → A → Type 0
Among [] a = ⊥
Among (x ∷ xs) a = (x ≡ a) ⊎ Among xs a

abbrev pub Each : {A : Type 0} → (A → Type 0) → List A → Type 0
Each P [] = Unit {0}
Each P (x ∷ xs) = P x × Each P xs

-- ---- children

-- the colour of a child: a number, the number in a slot, the point of the pointer in a slot, or any
pub data Colour : Type 0 where
  the_colour : ℤ → Colour
  colour_in : ℕ → Colour
  point_in : ℕ → Colour
  any_colour : Colour

abbrev pub HasNumber : ℤ → Option Value → Type 0
HasNumber z (Some (value.Number y)) = y ≡ z
HasNumber z _ = ⊥

abbrev pub IsPointOf : ℤ → Target → Type 0
IsPointOf z null_target = ⊥
IsPointOf z (point_target n i) = pos n ≡ z

abbrev pub HasPoint : ℤ → Option Value → Type 0
HasPoint z (Some (value.Number y)) = IsPointOf z (target_kept y)
HasPoint z _ = ⊥

abbrev pub HasColour : List Value → Colour → ℤ → Type 0
HasColour slots (the_colour z) c = c ≡ z
HasColour slots (colour_in s) c = HasNumber c (slice_get slots s)
HasColour slots (point_in s) c = HasPoint c (slice_get slots s)
HasColour slots any_colour c = Unit {0}

-- a region is a child of the partition in a slot; a colour that a partition lacks has no region
pub record IsChild (slots : List Value) (p : ℕ) (c : Colour) (r : RegionValue) : Type 0 where
  pub parts : PartitionValue
  pub there : partition_in (slice_get slots p) ≡ Some parts
  pub colour : ℤ
  pub has_colour : HasColour slots c colour
  pub child : coloured parts.children colour ≡ Some r

-- ---- shapes

-- Where a region comes from: nothing is known of it, it is that of an argument of the task, it is the whole of a root
-- that the task made, or of the one that it made last under a number, it lies within such a one, or it does and is the
-- child by a colour of the partition in a slot, or it comes from such a place and is the one in a slot, as slots are while
-- something stands on the stack.
pub data Origin : Type 0 where
  unknown : Origin
  argument : ℕ → Origin
  own_root : Origin
  own_as : ℕ → Origin
  part : Origin → Origin
  child_at : ℕ → Colour → Origin → Origin
  held_at : ℕ → Origin → Origin

-- The shape of a slot or of a cell of the stack: anything at all; a number of a width; a truth; an
-- index; a pointer with so many positions; an index space; a region of a field space, or of any, with its
-- origin; a partition into regions, known to be disjoint or not; one of a region with an origin; and the result of a
-- child, which may be pending.
pub data Shape : Type 0 where
  anything : Shape
  integer : Width → Shape
  truth : Shape
  index : Shape
  pointer : ℕ → Shape
  space : Shape
  region : Option ℕ → Origin → Shape
  partition : Option ℕ → Bool → Shape
  cut_from : Option ℕ → Bool → Origin → Shape
  awaited : Shape → Shape

-- those of numbers
pub data Numeric : Shape → Type 0 where
  numeric_integer : (w : Width) → Numeric (integer w)
  numeric_truth : Numeric truth
  numeric_index : Numeric index
  numeric_pointer : (n : ℕ) → Numeric (pointer n)

-- ---- numbers

abbrev pub position_of : Target → ℕ
position_of null_target = 0
position_of (point_target n i) = i

-- a number is of a shape
abbrev pub NumberIs : Shape → ℤ → Type 0
NumberIs anything z = Unit {0}
NumberIs (integer w) z = FitsWidth w z
NumberIs truth z = (z ≡ pos 0) ⊎ (z ≡ pos 1)
NumberIs index z = FitsWidth W64 z
NumberIs (pointer n) z = FitsWidth W64 z × position_of (target_kept z) ≤ n
NumberIs (awaited s) z = NumberIs s z
NumberIs _ z = ⊥

-- ---- what stands around a frame

-- The roots that are there; the field space and the points of each root; the shape of each child's
-- result, and how many children there are; the roots that the task made, and which it made last under each
-- number; its arguments; and the slots that stay as they are while something stands on the stack.
pub record World : Type 0 where
  pub there : ℕ → Bool
  pub spaces : ℕ → ℕ
  pub points : ℕ → List ℕ
  pub results : ℕ → Shape
  pub children : ℕ
  pub own : List ℕ
  pub last : ℕ → Option ℕ
  pub args : List Value
  pub held : List Value

-- with such slots
abbrev pub holding : World → List Value → World
holding x vs = record x { held = vs }

-- ---- regions and partitions

abbrev pub OfSpace : Option ℕ → ℕ → Type 0
OfSpace None n = Unit {0}
OfSpace (Some sp) n = n ≡ sp

-- a region is the whole of a root that the task made
abbrev pub IsWhole : World → RegionValue → Type 0
IsWhole x r = Among x.own r.root.0 × (r.points ≡ x.points r.root.0)

-- a region lies within another one of its root
abbrev pub LiesIn : RegionValue → RegionValue → Type 0
LiesIn r q = (r.root.0 ≡ q.root.0) × ((p : ℕ) → has r.points p ≡ true → has q.points p ≡ true)

abbrev pub ComesFrom : World → Origin → RegionValue → Type 0
ComesFrom x unknown r = Unit {0}
ComesFrom x (argument i) r = region_in (slice_get x.args i) ≡ Some r
ComesFrom x own_root r = IsWhole x r
ComesFrom x (own_as i) r = IsWhole x r × (x.last i ≡ Some r.root.0)
ComesFrom x (part o) r = (q : RegionValue) × ComesFrom x o q × LiesIn r q
ComesFrom x (child_at s c o) r = (q : RegionValue) × ComesFrom x o q × LiesIn r q × IsChild x.held s c r
ComesFrom x (held_at s o) r = ComesFrom x o r × (region_in (slice_get x.held s) ≡ Some r)

-- nothing is known of a child, nor of slots that stay
abbrev pub IsPlainOrigin : Origin → Type 0
IsPlainOrigin (part o) = IsPlainOrigin o
IsPlainOrigin (child_at s c o) = ⊥
IsPlainOrigin (held_at s o) = ⊥
IsPlainOrigin o = Unit {0}

abbrev pub IsPlain : Shape → Type 0
IsPlain (region sp o) = IsPlainOrigin o
IsPlain (cut_from sp d o) = IsPlainOrigin o
IsPlain s = Unit {0}

-- a region is a set of points of a root that is there
pub record IsRegion (x : World) (sp : Option ℕ) (o : Origin) (r : RegionValue) : Type 0 where
  pub there : x.there r.root.0 ≡ true
  pub space : OfSpace sp (x.spaces r.root.0)
  pub set : IsPoints 4194304 r.points
  pub points : (p : ℕ) → has r.points p ≡ true → has (x.points r.root.0) p ≡ true
  pub origin : ComesFrom x o r

-- The task's own roots are there, and so are those of its arguments' regions. A root that it made last under a
-- number is its own; where it has points, it is so under one number alone, and no argument's region with points is of it.
pub record KnowsRoots (x : World) : Type 0 where
  pub own_there : (r : ℕ) → Among x.own r → x.there r ≡ true
  pub args_there : (i : ℕ) (r : RegionValue) → region_in (slice_get x.args i) ≡ Some r → x.there r.root.0 ≡ true
  pub last_own : (i r : ℕ) → x.last i ≡ Some r → Among x.own r
  pub one_number : (i j r p : ℕ) → x.last i ≡ Some r → x.last j ≡ Some r → has (x.points r) p ≡ true → i ≡ j
  pub args_other : (i j p : ℕ) (r : RegionValue) → region_in (slice_get x.args i) ≡ Some r → has r.points p ≡ true → x.last j ≢ Some r.root.0

-- a partition's children are regions of its root, and share no point where its flag says so
pub record IsPartition (x : World) (sp : Option ℕ) (d : Bool) (q : PartitionValue) : Type 0 where
  pub flag : d ≡ true → q.disjoint ≡ true
  pub apart : q.disjoint ≡ true → NoneShared (sets_of q)
  pub there : x.there q.root.0 ≡ true
  pub space : OfSpace sp (x.spaces q.root.0)
  pub count : length q.children ≤ 4194304
  pub regions : (r : RegionValue) → Among q.children r →
      (r.root.0 ≡ q.root.0) × IsRegion x sp unknown r

-- it is of a region with an origin: of its root, and each child lies within it
pub record IsCutOf (x : World) (o : Origin) (q : PartitionValue) : Type 0 where
  pub parent : RegionValue
  pub origin : ComesFrom x o parent
  pub root : q.root.0 ≡ parent.root.0
  pub inside : (r : RegionValue) → Among q.children r → LiesIn r parent

-- ---- values

-- a value is of a shape
pub data Is (x : World) : Shape → Value → Type 0 where
  is_anything : (v : Value) → Is x anything v
  is_number : (s : Shape) (z : ℤ) → NumberIs s z → Is x s (value.Number z)
  is_space : (n : ℕ) → n ≤ 4194304 → Is x space (value.Space n)
  is_region : (sp : Option ℕ) (o : Origin) (r : RegionValue) → IsRegion x sp o r →
      Is x (region sp o) (value.Region r)
  is_partition : (sp : Option ℕ) (d : Bool) (q : PartitionValue) → IsPartition x sp d q →
      Is x (partition sp d) (value.Partition q)
  is_cut : (sp : Option ℕ) (d : Bool) (o : Origin) (q : PartitionValue) → IsPartition x sp d q → IsCutOf x o q →
      Is x (cut_from sp d o) (value.Partition q)
  is_pending : (s : Shape) (i : ℕ) → i < x.children →
      ((z : ℤ) → NumberIs (x.results i) z → NumberIs s z) → Is x (awaited s) (value.Pending i)

pub data Are (x : World) : List Shape → List Value → Type 0 where
  are_none : Are x [] []
  are_more : (s : Shape) (v : Value) (ss : List Shape) (vs : List Value) → Is x s v → Are x ss vs →
      Are x (s ∷ ss) (v ∷ vs)
