-- The ways in which an instruction goes on or stops, and what of the frame it leaves as it is.
use Rattle.std.proofs.Common.{◌≡◌, ℕ, zero, suc, ◌^◌, ◌≤◌, ℤ, List, [], ◌∷◌, Bool, true, false, Option, Some, None, refl, sym, ap, ◌∙◌}
use Rattle.std.specs.Prelude.{slice_get, length, nat_lt, nat_le}
use Rattle.regent_tree.specs.Values.{target_kept}
use Rattle.task_code.specs.declared.code.Line.{Line}
use Rattle.task_code.specs.declared.instr.Instr.{Instr}
use Rattle.task_code.specs.declared.instr.Instr.TheVariants as instr
use Rattle.machine_terms.specs.declared.frame.Frame.{Frame}
use Rattle.region_tree.specs.declared.tree.RootId.{RootId}
use Rattle.machine_terms.specs.declared.outcome.CallOut.{CallOut}
use Rattle.machine_terms.specs.declared.outcome.Made.{Made}
use Rattle.machine_terms.specs.declared.outcome.Yield.{Yield}
use Rattle.machine_terms.specs.declared.outcome.Yield.TheVariants as yield
use Rattle.machine_terms.specs.declared.value.PartitionValue.{PartitionValue}
use Rattle.machine_terms.specs.declared.value.RegionValue.{RegionValue}
use Rattle.machine_terms.specs.declared.value.Value.{Value}
use Rattle.machine_terms.specs.declared.value.Value.TheVariants.{Number, Space, Region, Partition, Pending}
use Rattle.machine_terms.specs.Machine.{Machine, Stepped, goes, prints, stops, when, at, with_turns, next, yields, on_number, on_two, on_turn}
use Rattle.machine_terms.specs.Jumps.{may_jump}
use Rattle.machine_terms.specs.Pointers.{region_slot, Aimed, aims, fails, nowhere, aim}
use Rattle.machine_terms.specs.Regions.{on_space, on_colours, Column, unread, awaited, column, with_column, with_region, with_partition}
use Rattle.machine_terms.proofs.KeptParts.{bare}
use Rattle.machine_terms.proofs.FitParts.{PartsFit}
use Rattle.machine_terms.proofs.KeptParts.{IsMissing}

-- what no instruction changes, and that numbers of parts fit where they did before
pub record Fixed (f g : Machine) : Type 0 where
  pub task : g.frame.task ≡ f.frame.task
  pub slots : length g.frame.slots ≡ length f.frame.slots
  pub depth : g.frame.depth ≡ f.frame.depth
  pub own : g.frame.own ≡ f.frame.own
  pub needs : g.frame.needs ≡ f.frame.needs
  pub parts : bare g.parts ≡ bare f.parts
  pub fits : PartsFit f.parts → PartsFit g.parts

-- nor is a fault kept for later, as behind a launch
pub record Steady (f g : Machine) : Type 0 where
  pub task : g.frame.task ≡ f.frame.task
  pub slots : length g.frame.slots ≡ length f.frame.slots
  pub later : g.frame.later ≡ f.frame.later
  pub depth : g.frame.depth ≡ f.frame.depth
  pub own : g.frame.own ≡ f.frame.own
  pub needs : g.frame.needs ≡ f.frame.needs
  pub parts : bare g.parts ≡ bare f.parts
  pub fits : PartsFit f.parts → PartsFit g.parts

pub steady_fixed : (f g : Machine) → Steady f g → Fixed f g
steady_fixed f g h = record {
  task = h.task;
  slots = h.slots;
  depth = h.depth;
  own = h.own;
  needs = h.needs;
  parts = h.parts;
  fits = h.fits;
}

-- What an instruction may ask for: a field of a root, or what is pending in a slot. It depends on the frame
-- alone.
abbrev pub still : Frame → Machine
still f = record { frame = f; parts = [] }

abbrev pub aimed_key : ℕ → Aimed → Option (ℕ × ℕ)
aimed_key f (aims root p) = Some (root, f)
aimed_key f (fails k) = None
aimed_key f nowhere = None

abbrev pub pointer_key : Frame → List ℕ → ℕ → List Value → Option (ℕ × ℕ)
pointer_key f rs g (Number z ∷ st) = aimed_key g (aim (still f) rs (target_kept z))
pointer_key f rs g _ = None

abbrev pub region_key : ℕ → Option RegionValue → Option (ℕ × ℕ)
region_key g (Some r) = Some (r.root.0, g)
region_key g None = None

abbrev pub key_of : Instr → Frame → Option (ℕ × ℕ)
key_of (instr.Read rs g) f = pointer_key f rs g f.stack
key_of (instr.Write rs g w) f = pointer_key f rs g f.stack
key_of (instr.Reduce rs g o w) f = pointer_key f rs g f.stack
key_of (instr.Fill s g w) f = region_key g (region_slot (still f) s)
key_of (instr.ByField s g) f = region_key g (region_slot (still f) s)
key_of (instr.Image s p r g) f = region_key g (region_slot (still f) r)
key_of (instr.Preimage s p r g) f = region_key g (region_slot (still f) r)
key_of _ f = None

abbrev pub slot_of : Instr → Frame → Option Value
slot_of (instr.Load s) f = slice_get f.slots s
slot_of _ f = None

abbrev pub is_launch : Instr → Bool
is_launch (instr.Launch task s line args) = true
is_launch _ = false

-- the ways in which an instance ends
abbrev pub IsOver : Yield → Type 0
IsOver (yield.End v) = Unit {0}
IsOver (yield.Fault f) = Unit {0}
IsOver yield.MachineFault = Unit {0}
IsOver _ = ⊥

-- calls at a depth at which there may be any
abbrev pub MayCall : ℕ → List CallOut → Type 0
MayCall d [] = Unit {0}
MayCall d (c ∷ cs) = nat_lt d 64 ≡ true

-- the body of the task, what an instruction there may ask for, and whether it is a launch
pub record Asking : Type 0 where
  pub body : List Line
  pub key : Option (ℕ × ℕ)
  pub slot : Option Value
  pub launch : Bool

-- a step from a machine, by an instruction that may ask for this
pub data Kind (ask : Asking) (f : Machine) : Stepped → Type 0 where
  over : (y : Yield) (m : Machine) → IsOver y → Fixed f m → Kind ask f (stops y m)
  called : (cs : List CallOut) (m : Machine) → Fixed f m → m.frame.turns ≤ f.frame.turns →
      m.frame.pc ≡ suc f.frame.pc → MayCall f.frame.depth cs → (ask.launch ≡ false → m.frame.later ≡ f.frame.later) →
      Kind ask f (stops (yield.Calls cs) m)
  makes : (d : Made) (m : Machine) → Steady f m → m.frame.turns ≡ f.frame.turns →
      m.frame.pc ≡ suc f.frame.pc → Kind ask f (stops (yield.Make d) m)
  wants : (r : RootId) (g : ℕ) (m : Machine) → Fixed f m → m.frame ≡ f.frame → ask.key ≡ Some (r.0, g) →
      IsMissing f r.0 g → Kind ask f (stops (yield.Want r g) m)
  awaits : (i : ℕ) → ask.slot ≡ Some (Pending i) → Kind ask f (stops (yield.Await i) f)
  nexted : (m : Machine) → Steady f m → m.frame.turns ≡ f.frame.turns → m.frame.pc ≡ suc f.frame.pc →
      Kind ask f (goes m)
  printed : (t : List ℕ) (m : Machine) → Steady f m → m.frame.turns ≡ f.frame.turns →
      m.frame.pc ≡ suc f.frame.pc → Kind ask f (prints t m)
  jumped : (m : Machine) → Steady f m → m.frame.turns ≡ f.frame.turns →
      may_jump ask.body f.frame.pc m.frame.pc ≡ true → Kind ask f (goes m)
  turned : (m : Machine) → Steady f m → suc m.frame.turns ≡ f.frame.turns → Kind ask f (goes m)

-- a machine with the frame of another one, and parts of the same points
pub record Filling (f m : Machine) : Type 0 where
  pub frame : m.frame ≡ f.frame
  pub parts : bare m.parts ≡ bare f.parts
  pub fits : PartsFit f.parts → PartsFit m.parts

pub filling_fixed : (f m : Machine) → Filling f m → Fixed f m
filling_fixed f m e = record {
  task = ap (λ (x : Frame). x.task) e.frame;
  slots = ap (λ (x : Frame). length x.slots) e.frame;
  depth = ap (λ (x : Frame). x.depth) e.frame;
  own = ap (λ (x : Frame). x.own) e.frame;
  needs = ap (λ (x : Frame). x.needs) e.frame;
  parts = e.parts;
  fits = e.fits;
}

-- a machine itself, at another place with another stack, and with other turns
pub fixed : (f : Machine) → Fixed f f
fixed f = record { task = refl; slots = refl; depth = refl; own = refl; needs = refl; parts = refl; fits = λ h. h }

pub steady_at : (pc : ℕ) (st : List Value) (m : Machine) → Steady m (at pc st m)
steady_at pc st m = record { task = refl; slots = refl; later = refl; depth = refl; own = refl; needs = refl; parts = refl; fits = λ h. h }

pub fixed_turns : (n : ℕ) (m : Machine) → Fixed m (with_turns n m)
fixed_turns n m = record { task = refl; slots = refl; depth = refl; own = refl; needs = refl; parts = refl; fits = λ h. h }

module _ (ask : Asking) where
  -- ---- the words of which instructions are made

  pub when_kind : (f : Machine) (b : Bool) (p q : Stepped) → Kind ask f p → Kind ask f q →
      Kind ask f (when b p q)
  when_kind f true p q k l = k
  when_kind f false p q k l = l

  pub stops_kind : (y : Yield) (m : Machine) → IsOver y → Kind ask m (stops y m)
  stops_kind y m o = over y m o (fixed m)

  pub next_kind : (st : List Value) (m : Machine) → Kind ask m (next st m)
  next_kind st m = nexted _ (steady_at _ st m) refl refl

  pub yields_kind : (d : Made) (st : List Value) (m : Machine) →
      Kind ask m (yields (yield.Make d) (at (suc m.frame.pc) st m))
  yields_kind d st m = when_kind m (nat_lt (suc m.frame.pc) (2 ^ 32)) _ _
      (makes d _ (steady_at _ st m) refl refl)
      (over _ _ tt (steady_fixed m _ (steady_at _ st m)))

  pub number_kind : (f : Machine) (st : List Value) (m : Machine) (more : ℤ → List Value → Stepped) → Fixed f m →
      ((z : ℤ) (rest : List Value) → st ≡ Number z ∷ rest → Kind ask f (more z rest)) → Kind ask f (on_number st m more)
  number_kind f (Number z ∷ st) m more g k = k z st refl
  number_kind f [] m more g k = over _ m tt g
  number_kind f (Space n ∷ st) m more g k = over _ m tt g
  number_kind f (Region r ∷ st) m more g k = over _ m tt g
  number_kind f (Partition p ∷ st) m more g k = over _ m tt g
  number_kind f (Pending i ∷ st) m more g k = over _ m tt g

  pub two_kind : (f : Machine) (st : List Value) (m : Machine) (more : ℤ → ℤ → List Value → Stepped) → Fixed f m →
      ((a b : ℤ) (rest : List Value) → st ≡ Number b ∷ Number a ∷ rest → Kind ask f (more a b rest)) → Kind ask f (on_two st m more)
  two_kind f st m more g k = number_kind f st m _ g (λ b rest e. number_kind f rest m _ g (λ a others d. k a b others (e ∙ ap (λ xs. Number b ∷ xs) d)))

  pub turn_kind : (n : ℕ) (line : ℕ) (m : Machine) (more : Machine → Stepped) → m.frame.turns ≡ n →
      ((p : ℕ) → suc p ≡ m.frame.turns → Kind ask m (more (with_turns p m))) →
      Kind ask m (on_turn n line m more)
  turn_kind zero line m more e k = stops_kind _ m tt
  turn_kind (suc p) line m more e k = k p (sym e)

  pub region_kind : (f : Machine) (o : Option RegionValue) (m : Machine) (more : RegionValue → Stepped) → Fixed f m →
      ((r : RegionValue) → o ≡ Some r → Kind ask f (more r)) → Kind ask f (with_region o m more)
  region_kind f (Some r) m more g k = k r refl
  region_kind f None m more g k = over _ m tt g

  pub partition_kind : (f : Machine) (o : Option PartitionValue) (m : Machine) (more : PartitionValue → Stepped) →
      Fixed f m → ((r : PartitionValue) → Kind ask f (more r)) → Kind ask f (with_partition o m more)
  partition_kind f (Some r) m more g k = k r
  partition_kind f None m more g k = over _ m tt g

  pub space_kind : (f : Machine) (st : List Value) (m : Machine) (more : ℕ → List Value → Stepped) → Fixed f m →
      ((n : ℕ) (rest : List Value) → Kind ask f (more n rest)) → Kind ask f (on_space st m more)
  space_kind f (Space n ∷ st) m more g k = k n st
  space_kind f [] m more g k = over _ m tt g
  space_kind f (Number n ∷ st) m more g k = over _ m tt g
  space_kind f (Region r ∷ st) m more g k = over _ m tt g
  space_kind f (Partition p ∷ st) m more g k = over _ m tt g
  space_kind f (Pending i ∷ st) m more g k = over _ m tt g

  pub colours_kind : (line : ℕ) (m : Machine) (more : ℕ → List Value → Stepped) →
      ((n : ℕ) (rest : List Value) → Kind ask m (more n rest)) →
      Kind ask m (on_colours line m more)
  colours_kind line m more k = space_kind m m.frame.stack m _ (fixed _)
      (λ n st. when_kind m (nat_le n 65536) _ _ (k n st) (stops_kind _ m tt))

  pub column_kind : (c : Column) (root : RootId) (f : ℕ) (m : Machine) (more : List ℤ → Bool → Stepped) →
      ask.key ≡ Some (root.0, f) → (c ≡ awaited → IsMissing m root.0 f) →
      ((zs : List ℤ) (b : Bool) → Kind ask m (more zs b)) →
      Kind ask m (with_column c root.0 f m more)
  column_kind unread root f m more e h k = stops_kind _ m tt
  column_kind awaited root f m more e h k = wants root f m (fixed m) refl e (h refl)
  column_kind (column zs b) root f m more e h k = k zs b

  pub choose_kind : (f : Machine) (b : Bool) (p q : Stepped) → Kind ask f p → Kind ask f q →
      Kind ask f (elim b [ true ↦ p | false ↦ q ])
  choose_kind f true p q k l = k
  choose_kind f false p q k l = l
