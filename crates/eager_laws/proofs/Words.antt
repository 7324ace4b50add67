-- The words of which instructions are made, on a machine whose slots are seen so. No child is pending on its stack.
use Rattle.std.proofs.Common.{◌≡◌, ℕ, zero, suc, ◌<◌, ◌^◌, ℤ, List, [], ◌∷◌, Bool, true, false, Option, Some, None, refl, sym, subst, map}
use Rattle.std.specs.Prelude.{nat_lt, nat_le, length, slice_get}
use Rattle.region_tree.specs.declared.piece.Part.{Part}
use Rattle.machine_terms.specs.declared.outcome.Made.TheVariants as made
use Rattle.machine_terms.specs.declared.outcome.Yield.{Yield}
use Rattle.machine_terms.specs.declared.outcome.Yield.TheVariants as yield
use Rattle.machine_terms.specs.declared.value.PartitionValue.{PartitionValue}
use Rattle.machine_terms.specs.declared.value.RegionValue.{RegionValue}
use Rattle.machine_terms.specs.declared.value.Value.{Value}
use Rattle.machine_terms.specs.declared.value.Value.TheVariants.{Number, Space, Region, Partition, Pending}
use Rattle.machine_terms.specs.Machine.{Machine, Stepped, goes, prints, stops, when, at, next, with_turns, broken, yields, faults, on_number, on_two, on_turn}
use Rattle.regent_tree.specs.declared.outcome.FaultKind.{FaultKind}
use Rattle.machine_terms.specs.Regions.{on_region, with_region, on_partition, with_partition, on_space, on_colours, on_column, with_column, Column, unread, awaited, column, column_of, partition, partition_slot}
use Rattle.machine_terms.specs.Pointers.{region_slot}
use Rattle.eager_laws.specs.Pendings.{ArePutAway, AreSettled}
use Rattle.eager_laws.proofs.Seeing.{eager_machine, eager_step, region_known, partition_known}

-- what a machine waits for is no child
abbrev pub IsMet : Yield → Type 0
IsMet (yield.Calls cs) = ⊥
IsMet (yield.Await n) = ⊥
IsMet _ = Unit {0}

module _ (rs : List ℤ) (for_results : ℕ → Bool) where
  pub record Fine (m : Machine) : Type 0 where
    pub stack : AreSettled m.frame.stack
    pub slots : ArePutAway for_results (length rs) m.frame.slots
    pub children : m.frame.children ≡ length rs

  abbrev pub StepsFine : Stepped → Type 0
  StepsFine (goes m) = Fine m
  StepsFine (prints t m) = Fine m
  StepsFine (stops y m) = Fine m × IsMet y

  -- a step of the machine that is seen so is that of the machine, seen so
  pub record Same (s t : Stepped) : Type 0 where
    pub is : s ≡ eager_step rs t
    pub fine : StepsFine t

  pub done : {s t : Stepped} → s ≡ eager_step rs t → StepsFine t → Same s t
  done e f = record { is = e; fine = f }

  pub breaks : (m : Machine) → Fine m → Same (broken (eager_machine rs m)) (broken m)
  breaks m f = record { is = refl; fine = (f, tt) }

  pub faulted : (k : FaultKind) (line : ℕ) (m : Machine) → Fine m → Same (faults k line (eager_machine rs m)) (faults k line m)
  faulted k line m f = record { is = refl; fine = (f, tt) }

  pub fine_at : (pc : ℕ) (st : List Value) (m : Machine) → Fine m → AreSettled st → Fine (at pc st m)
  fine_at pc st m f c = record { stack = c; slots = f.slots; children = f.children }

  pub goes_to : (pc : ℕ) (st : List Value) (m : Machine) → Fine m → AreSettled st →
      Same (goes (at pc st (eager_machine rs m))) (goes (at pc st m))
  goes_to pc st m f c = record { is = refl; fine = fine_at pc st m f c }

  pub goes_on : (st : List Value) (m : Machine) → Fine m → AreSettled st → Same (next st (eager_machine rs m)) (next st m)
  goes_on st m f c = record { is = refl; fine = fine_at (suc m.frame.pc) st m f c }

  pub wants : (y : Yield) (m : Machine) → Fine m → IsMet y → Same (stops y (eager_machine rs m)) (stops y m)
  wants y m f q = record { is = refl; fine = (f, q) }

  pub fine_parts : (parts : List Part) (m : Machine) → Fine m → Fine (record m { parts = parts })
  fine_parts parts m f = record { stack = f.stack; slots = f.slots; children = f.children }

  pub same_when : (b : Bool) (p' q' p q : Stepped) → Same p' p → Same q' q → Same (when b p' q') (when b p q)
  same_when true p' q' p q k l = k
  same_when false p' q' p q k l = l

  -- where the test is another one, that comes out alike
  pub when_alike : (c b : Bool) (p' q' p q : Stepped) → c ≡ b → Same p' p → Same q' q → Same (when c p' q') (when b p q)
  when_alike c b p' q' p q e k l = subst (λ c. Same (when c p' q') (when b p q)) (sym e) (same_when b p' q' p q k l)

  pub same_choice : (b : Bool) (p' q' p q : Stepped) → Same p' p → Same q' q →
      Same (elim b [ true ↦ p' | false ↦ q' ]) (elim b [ true ↦ p | false ↦ q ])
  same_choice true p' q' p q k l = k
  same_choice false p' q' p q k l = l

  pub same_number : (st : List Value) (m : Machine) (more' more : ℤ → List Value → Stepped) → Fine m → AreSettled st →
      ((z : ℤ) (rest : List Value) → AreSettled rest → Same (more' z rest) (more z rest)) →
      Same (on_number st (eager_machine rs m) more') (on_number st m more)
  same_number [] m more' more f c k = breaks m f
  same_number (Number z ∷ st) m more' more f c k = k z st c.1
  same_number (Space s ∷ st) m more' more f c k = breaks m f
  same_number (Region r ∷ st) m more' more f c k = breaks m f
  same_number (Partition p ∷ st) m more' more f c k = breaks m f
  same_number (Pending i ∷ st) m more' more f c k = breaks m f

  pub same_two : (st : List Value) (m : Machine) (more' more : ℤ → ℤ → List Value → Stepped) → Fine m → AreSettled st →
      ((a b : ℤ) (rest : List Value) → AreSettled rest → Same (more' a b rest) (more a b rest)) →
      Same (on_two st (eager_machine rs m) more') (on_two st m more)
  same_two st m more' more f c k = same_number st m _ _ f c (λ b rest d. same_number rest m _ _ f d (λ a rest e. k a b rest e))

  pub same_turn : (t line : ℕ) (m : Machine) (more' more : Machine → Stepped) → Fine m →
      ((p : ℕ) → Fine (with_turns p m) → Same (more' (eager_machine rs (with_turns p m))) (more (with_turns p m))) →
      Same (on_turn t line (eager_machine rs m) more') (on_turn t line m more)
  same_turn zero line m more' more f k = faulted _ line m f
  same_turn (suc p) line m more' more f k = k p (record { stack = f.stack; slots = f.slots; children = f.children })

  pub same_space : (st : List Value) (m : Machine) (more' more : ℕ → List Value → Stepped) → Fine m → AreSettled st →
      ((k : ℕ) (rest : List Value) → AreSettled rest → Same (more' k rest) (more k rest)) →
      Same (on_space st (eager_machine rs m) more') (on_space st m more)
  same_space [] m more' more f c k = breaks m f
  same_space (Number z ∷ st) m more' more f c k = breaks m f
  same_space (Space s ∷ st) m more' more f c k = k s st c.1
  same_space (Region r ∷ st) m more' more f c k = breaks m f
  same_space (Partition p ∷ st) m more' more f c k = breaks m f
  same_space (Pending i ∷ st) m more' more f c k = breaks m f

  pub same_colours : (line : ℕ) (m : Machine) (more' more : ℕ → List Value → Stepped) → Fine m →
      ((k : ℕ) (rest : List Value) → AreSettled rest → Same (more' k rest) (more k rest)) →
      Same (on_colours line (eager_machine rs m) more') (on_colours line m more)
  same_colours line m more' more f k = same_space m.frame.stack m _ _ f f.stack
      (λ n st c. same_when (nat_le n 65536) _ _ _ _ (k n st c) (faulted _ line m f))

  pub same_region : (s : ℕ) (m : Machine) (more' more : RegionValue → Stepped) → Fine m →
      ((r : RegionValue) → Same (more' r) (more r)) →
      Same (on_region (eager_machine rs m) s more') (on_region m s more)
  same_region s m more' more f k = subst (λ o. Same (with_region o (eager_machine rs m) more') (on_region m s more))
      (sym (region_known rs m.frame.slots s)) (by_slot (region_slot m s))
    where
      by_slot : (o : Option RegionValue) → Same (with_region o (eager_machine rs m) more') (with_region o m more)
      by_slot (Some r) = k r
      by_slot None = breaks m f

  pub same_partition : (s : ℕ) (m : Machine) (more' more : PartitionValue → Stepped) → Fine m →
      ((p : PartitionValue) → Same (more' p) (more p)) →
      Same (on_partition (eager_machine rs m) s more') (on_partition m s more)
  same_partition s m more' more f k = subst (λ o. Same (with_partition o (eager_machine rs m) more') (on_partition m s more))
      (sym (partition_known rs m.frame.slots s)) (by_slot (partition_slot m s))
    where
      by_slot : (o : Option PartitionValue) → Same (with_partition o (eager_machine rs m) more') (with_partition o m more)
      by_slot (Some r) = k r
      by_slot None = breaks m f

  -- what is yielded behind the instruction
  pub same_yield : (y : Yield) (st : List Value) (m : Machine) → Fine m → AreSettled st → IsMet y →
      Same (yields y (at (suc m.frame.pc) st (eager_machine rs m))) (yields y (at (suc m.frame.pc) st m))
  same_yield y st m f c q = same_when (nat_lt (suc m.frame.pc) (2 ^ 32)) _ _ _ _
      (wants y (at (suc m.frame.pc) st m) (fine_at _ st m f c) q) (breaks (at (suc m.frame.pc) st m) (fine_at _ st m f c))

  pub same_made : (r : RegionValue) (sets : List (List ℕ)) (d : Bool) (st : List Value) (m : Machine) → Fine m → AreSettled st →
      Same (partition r sets d st (eager_machine rs m)) (partition r sets d st m)
  same_made r sets d st m f c = same_yield (yield.Make (made.Partition r sets d)) st m f c tt

  pub same_column : (m : Machine) (r : RegionValue) (g : ℕ) (more' more : List ℤ → Bool → Stepped) → Fine m →
      ((zs : List ℤ) (b : Bool) → Same (more' zs b) (more zs b)) →
      Same (on_column (eager_machine rs m) r g more') (on_column m r g more)
  same_column m r g more' more f k = by_points r.points
    where
      by_column : (c : Column) → Same (with_column c r.root.0 g (eager_machine rs m) more') (with_column c r.root.0 g m more)
      by_column unread = breaks m f
      by_column awaited = wants _ m f tt
      by_column (column zs b) = k zs b

      by_points : (xs : List ℕ) → Same (with_column (column_of (eager_machine rs m) r g xs) r.root.0 g (eager_machine rs m) more')
          (with_column (column_of m r g xs) r.root.0 g m more)
      by_points [] = k [] false
      by_points (x ∷ xs) = by_column (column_of m r g (x ∷ xs))
