-- Marks: what is known of a frame at a place of compiled code.
use Rattle.std.specs.Prelude.{◌≡◌, ℕ, pos, ◌<◌, ◌≤◌, List, [], ◌∷◌, true, false, Option, Some, None, slice_get, slice_set, take}
use Rattle.plain_values.specs.Points.{has}
use Rattle.machine_terms.specs.declared.value.PartitionValue.{PartitionValue}
use Rattle.machine_terms.specs.declared.value.RegionValue.{RegionValue}
use Rattle.machine_terms.specs.declared.value.Value.{Value}
use Rattle.machine_terms.specs.declared.value.Value.TheVariants as value
use Rattle.machine_terms.specs.Jumps.{size_of}
use Rattle.machine_terms.specs.Pointers.{region_in}
use Rattle.machine_terms.specs.Regions.{partition_in}
use Rattle.fit_rules.specs.Shapes.{Among, Each, Shape, Numeric, World, holding, Are}
pub use Rattle.fit_rules.specs.Shapes.{Colour, the_colour, colour_in, point_in, any_colour, HasNumber, HasColour, IsChild, LiesIn}

-- ---- facts of regions in slots

-- a region by a slot, or as a child of the partition in a slot
pub data Spot : Type 0 where
  in_slot : ℕ → Spot
  child_in : ℕ → Colour → Spot

-- One region lies within another, or they share no point; a partition is of the region in a slot; and
-- the number in a slot is at most the count of points of a domain.
pub data Fact : Type 0 where
  lies : Spot → Spot → Fact
  apart : Spot → Spot → Fact
  parted : ℕ → ℕ → Fact
  counts : ℕ → ℕ → Fact

abbrev pub IsAt : List Value → Spot → RegionValue → Type 0
IsAt slots (in_slot s) r = region_in (slice_get slots s) ≡ Some r
IsAt slots (child_in p c) r = IsChild slots p c r

-- it lies within some region at a spot
pub record LiesAt (slots : List Value) (r : RegionValue) (b : Spot) : Type 0 where
  pub other : RegionValue
  pub at : IsAt slots b other
  pub inside : LiesIn r other

-- a partition is of the region in a slot: of its root, and each child lies within it
pub record IsParted (slots : List Value) (q : PartitionValue) (s : ℕ) : Type 0 where
  pub parent : RegionValue
  pub at : region_in (slice_get slots s) ≡ Some parent
  pub root : q.root.0 ≡ parent.root.0
  pub inside : (r : RegionValue) → Among q.children r → LiesIn r parent

abbrev pub AtMost : Option ℕ → Option Value → Type 0
AtMost (Some n) (Some (value.Number z)) = (i : ℕ) × (z ≡ pos i) × i ≤ n
AtMost _ _ = ⊥

abbrev pub size_in : Option Value → Option ℕ
size_in (Some v) = size_of v
size_in None = None

abbrev pub Holds : Fact → List Value → Type 0
Holds (lies a b) slots = (r : RegionValue) → IsAt slots a r → LiesAt slots r b
Holds (apart a b) slots = (r q : RegionValue) → IsAt slots a r → IsAt slots b q →
    r.root.0 ≡ q.root.0 → (p : ℕ) → has r.points p ≡ true → has q.points p ≡ false
Holds (parted p s) slots = (q : PartitionValue) → partition_in (slice_get slots p) ≡ Some q →
    IsParted slots q s
Holds (counts c s) slots = AtMost (size_in (slice_get slots s)) (slice_get slots c)

-- a colour in a slot is a number already, and so are those that a fact names
abbrev pub IsStanding : List Shape → Colour → Type 0
IsStanding ss (the_colour z) = Unit {0}
IsStanding ss (colour_in s) = (a : Shape) × (slice_get ss s ≡ Some a) × Numeric a
IsStanding ss (point_in s) = (a : Shape) × (slice_get ss s ≡ Some a) × Numeric a
IsStanding ss any_colour = Unit {0}

abbrev pub SpotStands : List Shape → Spot → Type 0
SpotStands ss (in_slot s) = Unit {0}
SpotStands ss (child_in p c) = IsStanding ss c

abbrev pub ColoursStand : List Shape → Fact → Type 0
ColoursStand ss (lies a b) = SpotStands ss a
ColoursStand ss (apart a b) = SpotStands ss a × SpotStands ss b
ColoursStand ss (parted p s) = Unit {0}
ColoursStand ss (counts c s) = Unit {0}

-- ---- facts of the top of the stack

-- The number on top is a colour; the region on top stands at a spot; the partition on top is
-- of the region in a slot.
pub data TopFact : Type 0 where
  top_colour : Colour → TopFact
  top_at : Spot → TopFact
  top_parted : ℕ → TopFact

abbrev pub HoldsTop : TopFact → List Value → List Value → Type 0
HoldsTop (top_colour c) vs (value.Number z ∷ st) = HasColour vs c z
HoldsTop (top_at b) vs (value.Region r ∷ st) = IsAt vs b r
HoldsTop (top_parted s) vs (value.Partition q ∷ st) = IsParted vs q s
HoldsTop _ vs _ = ⊥

-- ---- marks

-- What is known of slots, of the stack and of its top. The slots below a number stay as they are while something
-- stands on the stack.
pub record Mark : Type 0 where
  pub slots : List Shape
  pub facts : List Fact
  pub stack : List Shape
  pub top : List TopFact
  pub fixed : ℕ

-- the mark with another stack, of whose top nothing more is known
abbrev pub stacked : Mark → List Shape → Mark
stacked m ss = record m { stack = ss; top = [] }

abbrev pub topped : Mark → List Shape → TopFact → Mark
topped m ss f = record m { stack = ss; top = f ∷ [] }

-- what stands around the stack of a frame, with the slots that stay
abbrev pub around : World → Mark → List Value → World
around x m vs = holding x (take m.fixed vs)

-- slots and a stack are as a mark says, and the regions among the arguments stand in their slots
pub record Suits (x : World) (params : ℕ) (m : Mark) (vs st : List Value) : Type 0 where
  pub slots : Are x m.slots vs
  pub stack : Are (around x m vs) m.stack st
  pub facts : Each (λ k. Holds k vs) m.facts
  pub top : Each (λ k. HoldsTop k vs st) m.top
  pub args : (i : ℕ) → i < params → region_in (slice_get vs i) ≡ region_in (slice_get x.args i)

-- what suits one mark suits another
abbrev pub Into : ℕ → Mark → Mark → Type 0
Into params m n =
    (x : World) (vs st : List Value) → Suits x params m vs st → Suits x params n vs st

-- what suits a mark with a value on the stack suits another one, once the value stands in a slot
abbrev pub Stores : ℕ → Mark → ℕ → Mark → Type 0
Stores params m s n = (x : World) (vs st : List Value) (v : Value) →
    Suits x params m vs (v ∷ st) → Suits x params n (slice_set vs s v) st
