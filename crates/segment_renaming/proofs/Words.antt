-- The words of which instructions are made, on a machine with other numbers of roots and nodes.
use Rattle.std.proofs.Common.{◌≡◌, ℕ, zero, suc, ◌^◌, ℤ, List, [], ◌∷◌, Bool, true, false, Option, Some, None, refl, sym, subst, map, option_map}
use Rattle.std.specs.Prelude.{nat_lt, nat_le}
use Rattle.std.proofs.lemmas.List.{map-set}
use Rattle.machine_terms.specs.declared.outcome.Made.TheVariants as made
use Rattle.machine_terms.specs.declared.outcome.Yield.{Yield}
use Rattle.machine_terms.specs.declared.outcome.Yield.TheVariants as yield
use Rattle.machine_terms.specs.declared.value.PartitionValue.{PartitionValue}
use Rattle.machine_terms.specs.declared.value.RegionValue.{RegionValue}
use Rattle.machine_terms.specs.declared.value.Value.{Value}
use Rattle.machine_terms.specs.declared.value.Value.TheVariants.{Number, Space, Region, Partition, Pending}
use Rattle.machine_terms.specs.Machine.{Machine, Stepped, when, at, put, with_turns, broken, yields, on_number, on_two, on_turn}
use Rattle.machine_terms.specs.Regions.{on_region, with_region, on_partition, with_partition, on_space, on_colours, on_column, with_column, Column, unread, awaited, column, column_of, partition}
use Rattle.machine_terms.specs.Pointers.{region_slot}
use Rattle.machine_terms.specs.Regions.{partition_slot}
use Rattle.segment_renaming.specs.Renaming.{Names, IsOneToOne, region_to, partition_to, value_to, frame_to, machine_to, yield_to, stepped_to}
use Rattle.segment_renaming.proofs.Alike.{region_slot_to, partition_slot_to, column_alike}

-- a step of the renamed machine is that of the machine, renamed
pub record Same (n : Names) (s t : Stepped) : Type 0 where
  pub is : s ≡ stepped_to n t

pub slots_set : (n : Names) (m : Machine) (s : ℕ) (v : Value) →
    put s (value_to n v) (machine_to n m) ≡ machine_to n (put s v m)
slots_set n m s v = λ i. record (machine_to n m) {
  frame = record (frame_to n m.frame) { slots = sym (map-set (value_to n) m.frame.slots s v) i };
}

module _ (n : Names) where
  pub done : {s t : Stepped} → s ≡ stepped_to n t → Same n s t
  done e = record { is = e }

  pub breaks : (m : Machine) → Same n (broken (machine_to n m)) (broken m)
  breaks m = record { is = refl }

  pub same_when : (b : Bool) (p' q' p q : Stepped) → Same n p' p → Same n q' q → Same n (when b p' q') (when b p q)
  same_when true p' q' p q k l = k
  same_when false p' q' p q k l = l

  -- where the test is another one, that comes out alike
  pub when_alike : (c b : Bool) (p' q' p q : Stepped) → c ≡ b → Same n p' p → Same n q' q → Same n (when c p' q') (when b p q)
  when_alike c b p' q' p q e k l = subst (λ c. Same n (when c p' q') (when b p q)) (sym e) (same_when b p' q' p q k l)

  pub same_choice : (b : Bool) (p' q' p q : Stepped) → Same n p' p → Same n q' q →
      Same n (elim b [ true ↦ p' | false ↦ q' ]) (elim b [ true ↦ p | false ↦ q ])
  same_choice true p' q' p q k l = k
  same_choice false p' q' p q k l = l

  pub same_number : (st : List Value) (m : Machine) (more' more : ℤ → List Value → Stepped) →
      ((z : ℤ) (rest : List Value) → Same n (more' z (map (value_to n) rest)) (more z rest)) →
      Same n (on_number (map (value_to n) st) (machine_to n m) more') (on_number st m more)
  same_number [] m more' more k = breaks m
  same_number (Number z ∷ st) m more' more k = k z st
  same_number (Space s ∷ st) m more' more k = breaks m
  same_number (Region r ∷ st) m more' more k = breaks m
  same_number (Partition p ∷ st) m more' more k = breaks m
  same_number (Pending i ∷ st) m more' more k = breaks m

  pub same_two : (st : List Value) (m : Machine) (more' more : ℤ → ℤ → List Value → Stepped) →
      ((a b : ℤ) (rest : List Value) → Same n (more' a b (map (value_to n) rest)) (more a b rest)) →
      Same n (on_two (map (value_to n) st) (machine_to n m) more') (on_two st m more)
  same_two st m more' more k = same_number st m _ _ (λ b rest. same_number rest m _ _ (λ a rest. k a b rest))

  pub same_turn : (t line : ℕ) (m : Machine) (more' more : Machine → Stepped) →
      ((p : ℕ) → Same n (more' (machine_to n (with_turns p m))) (more (with_turns p m))) →
      Same n (on_turn t line (machine_to n m) more') (on_turn t line m more)
  same_turn zero line m more' more k = done refl
  same_turn (suc p) line m more' more k = k p

  pub same_space : (st : List Value) (m : Machine) (more' more : ℕ → List Value → Stepped) →
      ((k : ℕ) (rest : List Value) → Same n (more' k (map (value_to n) rest)) (more k rest)) →
      Same n (on_space (map (value_to n) st) (machine_to n m) more') (on_space st m more)
  same_space [] m more' more k = breaks m
  same_space (Number z ∷ st) m more' more k = breaks m
  same_space (Space s ∷ st) m more' more k = k s st
  same_space (Region r ∷ st) m more' more k = breaks m
  same_space (Partition p ∷ st) m more' more k = breaks m
  same_space (Pending i ∷ st) m more' more k = breaks m

  pub same_colours : (line : ℕ) (m : Machine) (more' more : ℕ → List Value → Stepped) →
      ((k : ℕ) (rest : List Value) → Same n (more' k (map (value_to n) rest)) (more k rest)) →
      Same n (on_colours line (machine_to n m) more') (on_colours line m more)
  same_colours line m more' more k = same_space m.frame.stack m _ _
      (λ c st. same_when (nat_le c 65536) _ _ _ _ (k c st) (done refl))

  pub same_region : (s : ℕ) (m : Machine) (more' more : RegionValue → Stepped) →
      ((r : RegionValue) → Same n (more' (region_to n r)) (more r)) →
      Same n (on_region (machine_to n m) s more') (on_region m s more)
  same_region s m more' more k = subst (λ o. Same n (with_region o (machine_to n m) more') (on_region m s more))
      (sym (region_slot_to n m s)) (by_slot (region_slot m s))
    where
      by_slot : (o : Option RegionValue) →
          Same n (with_region (option_map (region_to n) o) (machine_to n m) more') (with_region o m more)
      by_slot (Some r) = k r
      by_slot None = breaks m

  pub same_partition : (s : ℕ) (m : Machine) (more' more : PartitionValue → Stepped) →
      ((p : PartitionValue) → Same n (more' (partition_to n p)) (more p)) →
      Same n (on_partition (machine_to n m) s more') (on_partition m s more)
  same_partition s m more' more k = subst (λ o. Same n (with_partition o (machine_to n m) more') (on_partition m s more))
      (sym (partition_slot_to n m s)) (by_slot (partition_slot m s))
    where
      by_slot : (o : Option PartitionValue) →
          Same n (with_partition (option_map (partition_to n) o) (machine_to n m) more') (with_partition o m more)
      by_slot (Some r) = k r
      by_slot None = breaks m

  -- what is yielded behind the instruction
  pub same_yield : (y : Yield) (st : List Value) (m : Machine) →
      Same n (yields (yield_to n y) (at (suc m.frame.pc) (map (value_to n) st) (machine_to n m)))
      (yields y (at (suc m.frame.pc) st m))
  same_yield y st m = same_when (nat_lt (suc m.frame.pc) (2 ^ 32)) _ _ _ _ (done refl) (done refl)

  pub same_made : (r : RegionValue) (sets' sets : List (List ℕ)) (d : Bool) (st : List Value) (m : Machine) → sets' ≡ sets →
      Same n (partition (region_to n r) sets' d (map (value_to n) st) (machine_to n m)) (partition r sets d st m)
  same_made r sets' sets d st m e = subst (λ xs. Same n (partition (region_to n r) xs d (map (value_to n) st) (machine_to n m)) (partition r sets d st m))
      (sym e) (same_yield (yield.Make (made.Partition r sets d)) st m)

  pub same_column : (one : IsOneToOne n) (m : Machine) (r : RegionValue) (f : ℕ) (more' more : List ℤ → Bool → Stepped) →
      ((zs : List ℤ) (b : Bool) → Same n (more' zs b) (more zs b)) →
      Same n (on_column (machine_to n m) (region_to n r) f more') (on_column m r f more)
  same_column one m r f more' more k = subst (λ c. Same n (with_column c (n.root r.root.0) f (machine_to n m) more') (on_column m r f more))
      (sym (column_alike n one m r f r.points)) (by_column (column_of m r f r.points))
    where
      by_column : (c : Column) → Same n (with_column c (n.root r.root.0) f (machine_to n m) more') (with_column c r.root.0 f m more)
      by_column unread = breaks m
      by_column awaited = done refl
      by_column (column zs b) = k zs b
