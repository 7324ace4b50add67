-- What a machine with other numbers of roots and nodes finds: the same, renamed.
use Rattle.std.proofs.Common.{◌≡◌, ℕ, zero, suc, ℤ, pos, negsuc, List, [], ◌∷◌, Bool, true, false, cond, Option, Some, None, refl, sym, ap, ◌∙◌, eq-eqb, eqb-true, ne_eqb, map, option_map, ◌==◌, ◌&&◌, ◌||◌}
use Rattle.std.specs.Prelude.{slice_get, nat_abs}
use Rattle.std.specs.List.{list_all}
use Rattle.std.proofs.lemmas.Option.{slice_get-map}
use Rattle.plain_values.specs.Points.{has, within}
use Rattle.region_tree.specs.declared.needs.Need.{Need}
use Rattle.region_tree.specs.declared.piece.Part.{Part}
use Rattle.regent_tree.specs.Values.{Region as PlainRegion, Target, null_target, point_target, first_holding, holds}
use Rattle.task_code.specs.declared.instr.PrintPart.{PrintPart}
use Rattle.task_code.specs.declared.instr.PrintPart.TheVariants as part
use Rattle.machine_terms.specs.declared.value.PartitionValue.{PartitionValue}
use Rattle.machine_terms.specs.declared.value.RegionValue.{RegionValue}
use Rattle.machine_terms.specs.declared.value.Value.{Value}
use Rattle.machine_terms.specs.declared.value.Value.TheVariants.{Number, Space, Region, Partition, Pending}
use Rattle.machine_terms.specs.Machine.{Machine}
use Rattle.machine_terms.specs.Jumps.{size_of, point_at}
use Rattle.machine_terms.specs.Parts.{Found, find, found_in, is_needed, is_part_of, part_of, set_part, set_cell, cell_at, refused}
use Rattle.machine_terms.specs.Pointers.{region_in, region_slot, plain_of, both_found, regions_in, aim, aim_if, aim_in, slot_at, Aimed, aims, fails, nowhere}
use Rattle.machine_terms.specs.Regions.{partition_in, partition_slot, sets_of, lie_in, coloured, numbers_in, column_of, column_in, column_found, Column}
use Rattle.machine_terms.specs.Calls.{Taken, few, taken, take_values, text_of, before_text}
use Rattle.segment_renaming.specs.Renaming.{Names, IsOneToOne, region_to, partition_to, value_to, need_to, part_to, machine_to}

-- ---- what names no root

pub points_all : (n : Names) (rs : List RegionValue) →
    map (λ (r : RegionValue). r.points) (map (region_to n) rs) ≡ map (λ (r : RegionValue). r.points) rs
points_all n [] = refl
points_all n (r ∷ rs) = ap (λ xs. r.points ∷ xs) (points_all n rs)

pub sets_alike : (n : Names) (p : PartitionValue) → sets_of (partition_to n p) ≡ sets_of p
sets_alike n p = points_all n p.children

pub size_alike : (n : Names) (d : Value) → size_of (value_to n d) ≡ size_of d
size_alike n (Number z) = refl
size_alike n (Space s) = refl
size_alike n (Region r) = refl
size_alike n (Partition p) = refl
size_alike n (Pending i) = refl

pub point_alike : (n : Names) (d : Value) (i : ℕ) → point_at (value_to n d) i ≡ point_at d i
point_alike n (Number z) i = refl
point_alike n (Space s) i = refl
point_alike n (Region r) i = refl
point_alike n (Partition p) i = refl
point_alike n (Pending j) i = refl

pub text_alike : (n : Names) (ps : List PrintPart) (vs : List Value) →
    text_of ps (map (value_to n) vs) ≡ text_of ps vs
text_alike n [] vs = refl
text_alike n (part.Text bytes ∷ ps) vs = ap (before_text bytes) (text_alike n ps vs)
text_alike n (part.Number ∷ ps) [] = refl
text_alike n (part.Number ∷ ps) (Number z ∷ vs) = ap (before_text _) (text_alike n ps vs)
text_alike n (part.Number ∷ ps) (Space s ∷ vs) = refl
text_alike n (part.Number ∷ ps) (Region r ∷ vs) = refl
text_alike n (part.Number ∷ ps) (Partition p ∷ vs) = refl
text_alike n (part.Number ∷ ps) (Pending i ∷ vs) = refl

-- ---- slots

pub region_in_to : (n : Names) (o : Option Value) →
    region_in (option_map (value_to n) o) ≡ option_map (region_to n) (region_in o)
region_in_to n None = refl
region_in_to n (Some (Number z)) = refl
region_in_to n (Some (Space s)) = refl
region_in_to n (Some (Region r)) = refl
region_in_to n (Some (Partition p)) = refl
region_in_to n (Some (Pending i)) = refl

pub partition_in_to : (n : Names) (o : Option Value) →
    partition_in (option_map (value_to n) o) ≡ option_map (partition_to n) (partition_in o)
partition_in_to n None = refl
partition_in_to n (Some (Number z)) = refl
partition_in_to n (Some (Space s)) = refl
partition_in_to n (Some (Region r)) = refl
partition_in_to n (Some (Partition p)) = refl
partition_in_to n (Some (Pending i)) = refl

pub slot_to : (n : Names) (slots : List Value) (s : ℕ) →
    slice_get (map (value_to n) slots) s ≡ option_map (value_to n) (slice_get slots s)
slot_to n slots s = slice_get-map (value_to n) slots s

pub region_slot_to : (n : Names) (m : Machine) (s : ℕ) →
    region_slot (machine_to n m) s ≡ option_map (region_to n) (region_slot m s)
region_slot_to n m s = ap region_in (slot_to n m.frame.slots s) ∙ region_in_to n (slice_get m.frame.slots s)

pub partition_slot_to : (n : Names) (m : Machine) (s : ℕ) →
    partition_slot (machine_to n m) s ≡ option_map (partition_to n) (partition_slot m s)
partition_slot_to n m s = ap partition_in (slot_to n m.frame.slots s) ∙ partition_in_to n (slice_get m.frame.slots s)

abbrev pub plain_to : Names → PlainRegion → PlainRegion
plain_to n r = record { root = n.root r.root; points = r.points }

both_to : (n : Names) (o : Option RegionValue) (rs : Option (List PlainRegion)) →
    both_found (plain_of (option_map (region_to n) o)) (option_map (map (plain_to n)) rs)
    ≡ option_map (map (plain_to n)) (both_found (plain_of o) rs)
both_to n None rs = refl
both_to n (Some r) None = refl
both_to n (Some r) (Some rs) = refl

pub regions_to : (n : Names) (slots : List Value) (ss : List ℕ) →
    regions_in (map (value_to n) slots) ss ≡ option_map (map (plain_to n)) (regions_in slots ss)
regions_to n slots [] = refl
regions_to n slots (s ∷ ss) =
    (λ i. both_found (plain_of ((ap region_in (slot_to n slots s) ∙ region_in_to n (slice_get slots s)) i)) (regions_to n slots ss i))
    ∙ both_to n (region_in (slice_get slots s)) (regions_in slots ss)

pub first_alike : (n : Names) (k : ℕ) (rs : List PlainRegion) (z : ℤ) →
    first_holding k (map (plain_to n) rs) z ≡ first_holding k rs z
first_alike n k [] z = refl
first_alike n k (r ∷ rs) z = ap (cond (holds r.points z) (point_target (nat_abs z) (suc k))) (first_alike n (suc k) rs z)

pub coloured_to : (n : Names) (rs : List RegionValue) (z : ℤ) →
    coloured (map (region_to n) rs) z ≡ option_map (region_to n) (coloured rs z)
coloured_to n rs (pos c) = slice_get-map (region_to n) rs c
coloured_to n rs (negsuc c) = refl

-- ---- values from the stack

abbrev pub taken_to : Names → Taken → Taken
taken_to n few = few
taken_to n (taken vs st) = taken (map (value_to n) vs) (map (value_to n) st)

pub take_to : (n : Names) (k : ℕ) (st vs : List Value) →
    take_values k (map (value_to n) st) (map (value_to n) vs) ≡ taken_to n (take_values k st vs)
take_to n zero st vs = refl
take_to n (suc k) [] vs = refl
take_to n (suc k) (Number z ∷ st) vs = take_to n k st (Number z ∷ vs)
take_to n (suc k) (Space s ∷ st) vs = take_to n k st (Space s ∷ vs)
take_to n (suc k) (Region r ∷ st) vs = take_to n k st (Region r ∷ vs)
take_to n (suc k) (Partition p ∷ st) vs = take_to n k st (Partition p ∷ vs)
take_to n (suc k) (Pending i ∷ st) vs = refl

-- ---- aims

abbrev pub aimed_to : Names → Aimed → Aimed
aimed_to n (aims root p) = aims (n.root root) p
aimed_to n (fails k) = fails k
aimed_to n nowhere = nowhere

aim_if_to : (n : Names) (b : Bool) (r : RegionValue) (p : ℕ) →
    aim_if b (region_to n r) p ≡ aimed_to n (aim_if b r p)
aim_if_to n true r p = refl
aim_if_to n false r p = refl

aim_in_to : (n : Names) (o : Option RegionValue) (p : ℕ) →
    aim_in (option_map (region_to n) o) p ≡ aimed_to n (aim_in o p)
aim_in_to n None p = refl
aim_in_to n (Some r) p = aim_if_to n (has r.points p) r p

slot_at_to : (n : Names) (slots : List Value) (o : Option ℕ) →
    slot_at (map (value_to n) slots) o ≡ option_map (region_to n) (slot_at slots o)
slot_at_to n slots None = refl
slot_at_to n slots (Some s) = ap region_in (slot_to n slots s) ∙ region_in_to n (slice_get slots s)

pub aim_to : (n : Names) (m : Machine) (rs : List ℕ) (t : Target) →
    aim (machine_to n m) rs t ≡ aimed_to n (aim m rs t)
aim_to n m rs null_target = refl
aim_to n m rs (point_target p zero) = refl
aim_to n m rs (point_target p (suc i)) =
    ap (λ o. aim_in o p) (slot_at_to n m.frame.slots (slice_get rs i)) ∙ aim_in_to n (slot_at m.frame.slots (slice_get rs i)) p

-- ---- parts, where no two roots are renamed alike

module _ (n : Names) (one : IsOneToOne n) where
  pub same_root : (a b : ℕ) → (n.root a == n.root b) ≡ (a == b)
  same_root a b = tested (a == b) refl
    where
      clash : (a == b) ≡ false → (a == b) ≡ true → ⊥
      clash x y = cc

      tested : (t : Bool) → (a == b) ≡ t → (n.root a == n.root b) ≡ (a == b)
      tested true e = eq-eqb (n.root a) (n.root b) (ap n.root (eqb-true a b e)) ∙ sym e
      tested false e = ne_eqb (n.root a) (n.root b) (λ q. clash e (eq-eqb a b (one a b q))) ∙ sym e

  pub needed_alike : (needs : List Need) (root field : ℕ) →
      is_needed (map (need_to n) needs) (n.root root) field ≡ is_needed needs root field
  needed_alike [] root field = refl
  needed_alike (d ∷ ds) root field = λ i. same_root d.root.0 root i && (d.field == field) || needed_alike ds root field i

  chosen : (b : Bool) (q : Part) (o : Option Part) →
      cond b (Some (part_to n q)) (option_map (part_to n) o) ≡ option_map (part_to n) (cond b (Some q) o)
  chosen true q o = refl
  chosen false q o = refl

  pub part_of_to : (parts : List Part) (root field : ℕ) →
      part_of (map (part_to n) parts) (n.root root) field ≡ option_map (part_to n) (part_of parts root field)
  part_of_to [] root field = refl
  part_of_to (q ∷ qs) root field =
      (λ i. cond (same_root q.root.0 root i && (q.field == field)) (Some (part_to n q)) (part_of_to qs root field i))
      ∙ chosen (is_part_of root field q) q (part_of qs root field)

  set_chosen : (b : Bool) (q : Part) (p : ℕ) (z : ℤ) (qs rest : List Part) →
      cond b (record (part_to n q) { pieces = set_cell q.pieces p z } ∷ map (part_to n) qs) (part_to n q ∷ map (part_to n) rest)
      ≡ map (part_to n) (cond b (record q { pieces = set_cell q.pieces p z } ∷ qs) (q ∷ rest))
  set_chosen true q p z qs rest = refl
  set_chosen false q p z qs rest = refl

  pub set_part_to : (parts : List Part) (root field p : ℕ) (z : ℤ) →
      set_part (map (part_to n) parts) (n.root root) field p z ≡ map (part_to n) (set_part parts root field p z)
  set_part_to [] root field p z = refl
  set_part_to (q ∷ qs) root field p z =
      (λ i. cond (same_root q.root.0 root i && (q.field == field))
      (record (part_to n q) { pieces = set_cell q.pieces p z } ∷ map (part_to n) qs)
      (part_to n q ∷ set_part_to qs root field p z i))
      ∙ set_chosen (is_part_of root field q) q p z qs (set_part qs root field p z)

  found_alike : (o : Option Part) (p : ℕ) → found_in (option_map (part_to n) o) p ≡ found_in o p
  found_alike None p = refl
  found_alike (Some q) p = refl

  pub find_alike : (m : Machine) (root field p : ℕ) →
      find (map (need_to n) m.frame.needs.items) (map (part_to n) m.parts) (n.root root) field p
      ≡ find m.frame.needs.items m.parts root field p
  find_alike m root field p = λ i. cond (needed_alike m.frame.needs.items root field i)
      ((ap (λ o. found_in o p) (part_of_to m.parts root field) ∙ found_alike (part_of m.parts root field) p) i) refused

  column_in_alike : (o : Option Part) (xs : List ℕ) → column_in (option_map (part_to n) o) xs ≡ column_in o xs
  column_in_alike None xs = refl
  column_in_alike (Some q) xs = ap (λ zs. Rattle.machine_terms.specs.Regions.column_of_numbers zs q.kind) (numbers_alike q xs)
    where
      numbers_alike : (q : Part) (xs : List ℕ) → numbers_in (part_to n q) xs ≡ numbers_in q xs
      numbers_alike q [] = refl
      numbers_alike q (x ∷ xs) = ap (Rattle.machine_terms.specs.Regions.and_number (Rattle.machine_terms.specs.Regions.readable (cell_at q.pieces x))) (numbers_alike q xs)

  column_found_alike : (c : Found) (o : Option Part) (xs : List ℕ) → column_found c (option_map (part_to n) o) xs ≡ column_found c o xs
  column_found_alike refused o xs = refl
  column_found_alike Rattle.machine_terms.specs.Parts.missing o xs = refl
  column_found_alike (Rattle.machine_terms.specs.Parts.found k c) o xs = column_in_alike o xs

  pub column_alike : (m : Machine) (r : RegionValue) (f : ℕ) (xs : List ℕ) →
      column_of (machine_to n m) (region_to n r) f xs ≡ column_of m r f xs
  column_alike m r f [] = refl
  column_alike m r f (x ∷ xs) =
      (λ i. column_found (find_alike m r.root.0 f x i) (part_of_to m.parts r.root.0 f i) (x ∷ xs))
      ∙ column_found_alike (find m.frame.needs.items m.parts r.root.0 f x) (part_of m.parts r.root.0 f) (x ∷ xs)

  pub lies_alike : (root : ℕ) (sets : List (List ℕ)) (b : RegionValue) →
      lie_in (n.root root) sets (region_to n b) ≡ lie_in root sets b
  lies_alike root sets b = λ i. same_root root b.root.0 i && list_all (λ s. within s b.points) sets
