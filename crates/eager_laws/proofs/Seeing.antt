-- What is found in slots whose pending children are known: regions and partitions are as they were.
use Rattle.std.proofs.Common.{◌≡◌, ℕ, zero, suc, ◌<◌, ◌≤◌, ◌+◌, ℤ, List, [], ◌∷◌, ◌++◌, Bool, true, false, Option, Some, None, refl, sym, ap, ◌∙◌, subst, map, option_map, arith}
use Rattle.std.specs.Prelude.{slice_get, slice_set, length}
use Rattle.std.proofs.lemmas.Bool.{false≢true}
use Rattle.std.proofs.lemmas.List.{map-set}
use Rattle.std.proofs.lemmas.Option.{slice_get-map}
use Rattle.machine_terms.specs.declared.value.PartitionValue.{PartitionValue}
use Rattle.machine_terms.specs.declared.value.RegionValue.{RegionValue}
use Rattle.machine_terms.specs.declared.value.Value.{Value}
use Rattle.machine_terms.specs.declared.value.Value.TheVariants.{Number, Space, Region, Partition, Pending}
use Rattle.machine_terms.specs.Calls.{is_pending}
use Rattle.machine_terms.specs.Jumps.{size_of, point_at}
use Rattle.machine_terms.specs.Machine.{Machine, Stepped, goes, prints, stops, put}
use Rattle.machine_terms.specs.Pointers.{region_in, region_slot, regions_in, both_found, plain_of, aim, aim_in, slot_at}
use Rattle.regent_tree.specs.Values.{Target, null_target, point_target}
use Rattle.machine_terms.specs.Regions.{partition_in, partition_slot}
use Rattle.eager_laws.specs.Steps.{known, known_as}
use Rattle.eager_laws.specs.Pendings.{AreSettled}

-- ---- values

pub known_settled : (rs : List ℤ) (v : Value) → is_pending v ≡ false → known rs v ≡ v
known_settled rs (Number z) e = refl
known_settled rs (Space s) e = refl
known_settled rs (Region r) e = refl
known_settled rs (Partition p) e = refl
known_settled rs (Pending n) e = absurd (false≢true (sym e))

pub all_settled : (rs : List ℤ) (vs : List Value) → AreSettled vs → map (known rs) vs ≡ vs
all_settled rs [] c = refl
all_settled rs (v ∷ vs) c = λ i. known_settled rs v c.0 i ∷ all_settled rs vs c.1 i

known_region : (rs : List ℤ) (o : Option Value) → region_in (option_map (known rs) o) ≡ region_in o
known_region rs None = refl
known_region rs (Some (Number z)) = refl
known_region rs (Some (Space s)) = refl
known_region rs (Some (Region r)) = refl
known_region rs (Some (Partition p)) = refl
known_region rs (Some (Pending n)) = by (slice_get rs n)
  where
    by : (o : Option ℤ) → region_in (Some (known_as o n)) ≡ None
    by (Some z) = refl
    by None = refl

known_partition : (rs : List ℤ) (o : Option Value) → partition_in (option_map (known rs) o) ≡ partition_in o
known_partition rs None = refl
known_partition rs (Some (Number z)) = refl
known_partition rs (Some (Space s)) = refl
known_partition rs (Some (Region r)) = refl
known_partition rs (Some (Partition p)) = refl
known_partition rs (Some (Pending n)) = by (slice_get rs n)
  where
    by : (o : Option ℤ) → partition_in (Some (known_as o n)) ≡ None
    by (Some z) = refl
    by None = refl

pub size_known : (rs : List ℤ) (v : Value) → size_of (known rs v) ≡ size_of v
size_known rs (Number z) = refl
size_known rs (Space s) = refl
size_known rs (Region r) = refl
size_known rs (Partition p) = refl
size_known rs (Pending n) = by (slice_get rs n)
  where
    by : (o : Option ℤ) → size_of (known_as o n) ≡ None
    by (Some z) = refl
    by None = refl

pub point_known : (rs : List ℤ) (v : Value) (i : ℕ) → point_at (known rs v) i ≡ point_at v i
point_known rs (Number z) i = refl
point_known rs (Space s) i = refl
point_known rs (Region r) i = refl
point_known rs (Partition p) i = refl
point_known rs (Pending n) i = by (slice_get rs n)
  where
    by : (o : Option ℤ) → point_at (known_as o n) i ≡ None
    by (Some z) = refl
    by None = refl

-- ---- slots

-- the machine whose slots are seen so
abbrev pub eager_machine : List ℤ → Machine → Machine
eager_machine rs m = record m { frame = record m.frame { slots = map (known rs) m.frame.slots } }

abbrev pub eager_step : List ℤ → Stepped → Stepped
eager_step rs (goes m) = goes (eager_machine rs m)
eager_step rs (prints t m) = prints t (eager_machine rs m)
eager_step rs (stops y m) = stops y (eager_machine rs m)

pub slot_known : (rs : List ℤ) (slots : List Value) (s : ℕ) →
    slice_get (map (known rs) slots) s ≡ option_map (known rs) (slice_get slots s)
slot_known rs slots s = slice_get-map (known rs) slots s

pub region_known : (rs : List ℤ) (slots : List Value) (s : ℕ) →
    region_in (slice_get (map (known rs) slots) s) ≡ region_in (slice_get slots s)
region_known rs slots s = ap region_in (slot_known rs slots s) ∙ known_region rs (slice_get slots s)

pub partition_known : (rs : List ℤ) (slots : List Value) (s : ℕ) →
    partition_in (slice_get (map (known rs) slots) s) ≡ partition_in (slice_get slots s)
partition_known rs slots s = ap partition_in (slot_known rs slots s) ∙ known_partition rs (slice_get slots s)

pub regions_known : (rs : List ℤ) (slots : List Value) (ss : List ℕ) →
    regions_in (map (known rs) slots) ss ≡ regions_in slots ss
regions_known rs slots [] = refl
regions_known rs slots (s ∷ ss) = λ i. both_found (plain_of (region_known rs slots s i)) (regions_known rs slots ss i)

slot_at_known : (rs : List ℤ) (slots : List Value) (o : Option ℕ) →
    slot_at (map (known rs) slots) o ≡ slot_at slots o
slot_at_known rs slots None = refl
slot_at_known rs slots (Some s) = region_known rs slots s

pub aim_known : (rs : List ℤ) (m : Machine) (ss : List ℕ) (t : Target) → aim (eager_machine rs m) ss t ≡ aim m ss t
aim_known rs m ss null_target = refl
aim_known rs m ss (point_target p zero) = refl
aim_known rs m ss (point_target p (suc i)) = ap (λ o. aim_in o p) (slot_at_known rs m.frame.slots (slice_get ss i))

pub slots_set : (rs : List ℤ) (m : Machine) (s : ℕ) (v : Value) →
    put s (known rs v) (eager_machine rs m) ≡ eager_machine rs (put s v m)
slots_set rs m s v = λ i. record (eager_machine rs m) {
  frame = record m.frame { slots = sym (map-set (known rs) m.frame.slots s v) i };
}
