-- The words of which instructions are made keep what is so of all values.
use Rattle.std.proofs.Common.{◌≡◌, ◌∷◌, ◌^◌, ℕ, ℤ, zero, suc, Bool, List, None, Option, Some, [], arith, false, refl, subst, true}
use Rattle.std.specs.Prelude.{◌≤◌, All, nat_le, nat_lt, slice_get}
use Rattle.std.specs.List.{Contains}
use Rattle.std.proofs.lemmas.List.Elements.{All-cons, All-contains, All-head, All-tail}
use Rattle.std.proofs.lemmas.Option.{none-some}
use Rattle.machine_terms.specs.declared.outcome.Yield.{Yield}
use Rattle.machine_terms.specs.declared.value.PartitionValue.{PartitionValue}
use Rattle.machine_terms.specs.declared.value.RegionValue.{RegionValue}
use Rattle.machine_terms.specs.declared.value.Value.{Value}
use Rattle.machine_terms.specs.declared.value.Value.TheVariants as value
use Rattle.machine_terms.specs.Calls.{Taken, few, is_pending, take_values, taken}
use Rattle.machine_terms.specs.Machine.{Machine, Stepped, at, broken, goes, next, on_number, on_turn, on_two, prints, stops, when, with_turns, yields}
use Rattle.machine_terms.specs.Pointers.{region_in, region_slot}
use Rattle.machine_terms.specs.Regions.{on_colours, on_partition, on_region, on_space, partition_in, partition_slot, with_partition, with_region}
use Rattle.machine_terms.specs.declared.frame.Frame.{Frame}
use Rattle.segment_regions.specs.Values.{YieldHas}

-- what is so of all values that name no region and await no child before one, and of the children of a partition where it is
-- so of that
pub record IsKeptFrom (V : Value → Type 0) (from : ℕ) : Type 0 where
  pub number : (z : ℤ) → V (value.Number z)
  pub space : (n : ℕ) → V (value.Space n)
  pub pending : (i : ℕ) → from ≤ i → V (value.Pending i)
  pub child : (p : PartitionValue) (r : RegionValue) → V (value.Partition p) → Contains p.children r → V (value.Region r)

-- what is so of all values that name no region, and of the children of a partition where it is so of that
pub record IsKept (V : Value → Type 0) : Type 0 where
  pub number : (z : ℤ) → V (value.Number z)
  pub space : (n : ℕ) → V (value.Space n)
  pub pending : (i : ℕ) → V (value.Pending i)
  pub child : (p : PartitionValue) (r : RegionValue) → V (value.Partition p) → Contains p.children r → V (value.Region r)

pub kept_from_none : (V : Value → Type 0) → IsKept V → IsKeptFrom V 0
kept_from_none V k = record { number = k.number; space = k.space; pending = λ i l. k.pending i; child = k.child }

-- the values of a frame are so, and it has called at least so many children
pub record FrameFrom (V : Value → Type 0) (from : ℕ) (f : Frame) : Type 0 where
  pub slots : All V f.slots
  pub stack : All V f.stack
  pub children : from ≤ f.children

-- a value that is looked up is one of the list
pub got : {A : Type 0} (xs : List A) (i : ℕ) (x : A) → slice_get xs i ≡ Some x → Contains xs x
got [] i x e = absurd (none-some x e)
got (y ∷ xs) zero x e = let same : y ≡ x = cc in (0, omega arith, same)
got (y ∷ xs) (suc i) x e = let more = got xs i x e in (suc more.0, omega (arith, more.1), more.2)

module _ (V : Value → Type 0) (from : ℕ) (k : IsKeptFrom V from) where
  abbrev pub Keeps : Stepped → Type 0
  Keeps (goes m) = FrameFrom V from m.frame
  Keeps (prints t m) = FrameFrom V from m.frame
  Keeps (stops y m) = FrameFrom V from m.frame × YieldHas V y

  -- ---- machines

  pub has_stack : (m : Machine) (pc : ℕ) (st : List Value) → FrameFrom V from m.frame → All V st → FrameFrom V from (at pc st m).frame
  has_stack m pc st h g = record { slots = h.slots; stack = g; children = h.children }

  pub has_turns : (m : Machine) (n : ℕ) → FrameFrom V from m.frame → FrameFrom V from (with_turns n m).frame
  has_turns m n h = record { slots = h.slots; stack = h.stack; children = h.children }

  pub pushed : (v : Value) (st : List Value) → V v → All V st → All V (v ∷ st)
  pushed v st h g = All-cons V v st h g

  -- ---- ways to end

  pub next_keeps : (st : List Value) (m : Machine) → FrameFrom V from m.frame → All V st → Keeps (next st m)
  next_keeps st m h g = has_stack m (suc m.frame.pc) st h g

  -- a number on top
  pub number_next : (z : ℤ) (st : List Value) (m : Machine) → FrameFrom V from m.frame → All V st → Keeps (next (value.Number z ∷ st) m)
  number_next z st m h g = next_keeps (value.Number z ∷ st) m h (pushed (value.Number z) st (k.number z) g)

  pub when_keeps : (b : Bool) (p q : Stepped) → Keeps p → Keeps q → Keeps (when b p q)
  when_keeps true p q h g = h
  when_keeps false p q h g = g

  pub choose_keeps : (b : Bool) (p q : Stepped) → Keeps p → Keeps q → Keeps (elim b [ true ↦ p | false ↦ q ])
  choose_keeps true p q h g = h
  choose_keeps false p q h g = g

  pub yields_keeps : (y : Yield) (m : Machine) → FrameFrom V from m.frame → YieldHas V y → Keeps (yields y m)
  yields_keeps y m h g = when_keeps (nat_lt m.frame.pc (2 ^ 32)) (stops y m) (broken m) (h, g) (h, tt)

  -- ---- what is taken

  pub number_keeps : (st : List Value) (m : Machine) (more : ℤ → List Value → Stepped) → FrameFrom V from m.frame → All V st → ((z : ℤ) (rest : List Value) → All V rest → Keeps (more z rest)) →
      Keeps (on_number st m more)
  number_keeps (value.Number z ∷ st) m more h g f = f z st (All-tail V (value.Number z) st g)
  number_keeps [] m more h g f = (h, tt)
  number_keeps (value.Space n ∷ st) m more h g f = (h, tt)
  number_keeps (value.Region r ∷ st) m more h g f = (h, tt)
  number_keeps (value.Partition p ∷ st) m more h g f = (h, tt)
  number_keeps (value.Pending i ∷ st) m more h g f = (h, tt)

  pub two_keeps : (st : List Value) (m : Machine) (more : ℤ → ℤ → List Value → Stepped) → FrameFrom V from m.frame → All V st → ((a b : ℤ) (rest : List Value) → All V rest → Keeps (more a b rest)) →
      Keeps (on_two st m more)
  two_keeps st m more h g f = number_keeps st m (λ b rest. on_number rest m (λ a others. more a b others)) h g
      (λ b rest r. number_keeps rest m (λ a others. more a b others) h r (λ a others o. f a b others o))

  pub space_keeps : (st : List Value) (m : Machine) (more : ℕ → List Value → Stepped) → FrameFrom V from m.frame → All V st → ((n : ℕ) (rest : List Value) → All V rest → Keeps (more n rest)) →
      Keeps (on_space st m more)
  space_keeps (value.Space n ∷ st) m more h g f = f n st (All-tail V (value.Space n) st g)
  space_keeps [] m more h g f = (h, tt)
  space_keeps (value.Number z ∷ st) m more h g f = (h, tt)
  space_keeps (value.Region r ∷ st) m more h g f = (h, tt)
  space_keeps (value.Partition p ∷ st) m more h g f = (h, tt)
  space_keeps (value.Pending i ∷ st) m more h g f = (h, tt)

  pub colours_keep : (line : ℕ) (m : Machine) (more : ℕ → List Value → Stepped) → FrameFrom V from m.frame → ((n : ℕ) (rest : List Value) → All V rest → Keeps (more n rest)) →
      Keeps (on_colours line m more)
  colours_keep line m more h f = space_keeps m.frame.stack m _ h h.stack (λ n st g. when_keeps (nat_le n 65536) _ _ (f n st g) (h, tt))

  pub turn_keeps : (n line : ℕ) (m : Machine) (more : Machine → Stepped) → FrameFrom V from m.frame → ((p : ℕ) → Keeps (more (with_turns p m))) → Keeps (on_turn n line m more)
  turn_keeps zero line m more h f = (h, tt)
  turn_keeps (suc p) line m more h f = f p

  -- ---- regions in slots

  region_had : (vs : List Value) (s : ℕ) (o : Option Value) (r : RegionValue) → All V vs → slice_get vs s ≡ o → region_in o ≡ Some r → V (value.Region r)
  region_had vs s None r h e q = absurd (none-some r q)
  region_had vs s (Some (value.Region x)) r h e q = subst (λ (y : RegionValue). V (value.Region y)) (let same : x ≡ r = cc in same) (All-contains V vs (value.Region x) h (got vs s (value.Region x) e))
  region_had vs s (Some (value.Number z)) r h e q = absurd (none-some r q)
  region_had vs s (Some (value.Space n)) r h e q = absurd (none-some r q)
  region_had vs s (Some (value.Partition p)) r h e q = absurd (none-some r q)
  region_had vs s (Some (value.Pending i)) r h e q = absurd (none-some r q)

  partition_had : (vs : List Value) (s : ℕ) (o : Option Value) (p : PartitionValue) → All V vs → slice_get vs s ≡ o → partition_in o ≡ Some p → V (value.Partition p)
  partition_had vs s None p h e q = absurd (none-some p q)
  partition_had vs s (Some (value.Partition x)) p h e q =
      subst (λ (y : PartitionValue). V (value.Partition y)) (let same : x ≡ p = cc in same) (All-contains V vs (value.Partition x) h (got vs s (value.Partition x) e))
  partition_had vs s (Some (value.Number z)) p h e q = absurd (none-some p q)
  partition_had vs s (Some (value.Space n)) p h e q = absurd (none-some p q)
  partition_had vs s (Some (value.Region r)) p h e q = absurd (none-some p q)
  partition_had vs s (Some (value.Pending i)) p h e q = absurd (none-some p q)

  by_region : (o : Option RegionValue) (m : Machine) (more : RegionValue → Stepped) → FrameFrom V from m.frame → ((r : RegionValue) → o ≡ Some r → Keeps (more r)) → Keeps (with_region o m more)
  by_region None m more h f = (h, tt)
  by_region (Some r) m more h f = f r refl

  pub region_keeps : (m : Machine) (s : ℕ) (more : RegionValue → Stepped) → FrameFrom V from m.frame → ((r : RegionValue) → V (value.Region r) → Keeps (more r)) → Keeps (on_region m s more)
  region_keeps m s more h f = by_region (region_slot m s) m more h (λ r e. f r (region_had m.frame.slots s (slice_get m.frame.slots s) r h.slots refl e))

  by_partition : (o : Option PartitionValue) (m : Machine) (more : PartitionValue → Stepped) → FrameFrom V from m.frame → ((p : PartitionValue) → o ≡ Some p → Keeps (more p)) → Keeps (with_partition o m more)
  by_partition None m more h f = (h, tt)
  by_partition (Some p) m more h f = f p refl

  pub partition_keeps : (m : Machine) (s : ℕ) (more : PartitionValue → Stepped) → FrameFrom V from m.frame → ((p : PartitionValue) → V (value.Partition p) → Keeps (more p)) → Keeps (on_partition m s more)
  partition_keeps m s more h f = by_partition (partition_slot m s) m more h (λ p e. f p (partition_had m.frame.slots s (slice_get m.frame.slots s) p h.slots refl e))

  -- ---- values from the stack

  abbrev pub TakenHas : Taken → Type 0
  TakenHas few = Unit {0}
  TakenHas (taken vs st) = All V vs × All V st

  pub taken_have : (n : ℕ) (st vs : List Value) → All V st → All V vs → TakenHas (take_values n st vs)
  taken_have zero st vs h g = (g, h)
  taken_have (suc n) [] vs h g = tt
  taken_have (suc n) (v ∷ st) vs h g = chosen (is_pending v) (taken_have n st (v ∷ vs) (All-tail V v st h) (pushed v vs (All-head V v st h) g))
    where
      chosen : (b : Bool) → TakenHas (take_values n st (v ∷ vs)) → TakenHas (elim b [ true ↦ few | false ↦ take_values n st (v ∷ vs) ])
      chosen true more = tt
      chosen false more = more
