-- Pointers without accesses, casts, index spaces and partitions' children.
use Rattle.std.proofs.Common.{◌≡◌, inl, inr, ℕ, zero, suc, ◌+◌, ◌<◌, ◌≤◌, ◌^◌, ℤ, pos, negsuc, List, [], ◌∷◌, Bool, true, false, cond, Option, Some, None, refl, sym, ap, ◌∙◌, subst, arith}
use Rattle.std.proofs.lemmas.Option.{none-some, same_Some}
use Rattle.std.specs.Prelude.{slice_get, length, nat_le, nat_abs}
use Rattle.std.proofs.lemmas.Bool.{le-leb, leb-true}
use Rattle.std.proofs.lemmas.Int.{ints}
use Rattle.plain_values.specs.Points.{has}
use Rattle.regent_tree.specs.declared.outcome.FaultKind.TheVariants.{OutOfRegion, BadSize}
use Rattle.regent_tree.specs.Values.{Target, null_target, point_target, kept_target, target_kept, first_holding, holds, Region}
use Rattle.task_code.specs.declared.code.TaskCode.{TaskCode}
use Rattle.machine_terms.specs.declared.value.PartitionValue.{PartitionValue}
use Rattle.machine_terms.specs.declared.value.RegionValue.{RegionValue}
use Rattle.machine_terms.specs.declared.value.Value.{Value}
use Rattle.machine_terms.specs.declared.value.Value.TheVariants as value
use Rattle.machine_terms.specs.Machine.{Machine, when, next, faults, broken, on_number}
use Rattle.machine_terms.specs.Pointers.{move, moved_to, element, region_slot, regions_in, cast, cast_pointer, both_found, plain_of, plain_region}
use Rattle.machine_terms.specs.Regions.{space as space_code, colors, child, child_at, coloured, partition_slot, partition_in, with_partition}
use Rattle.fit_rules.specs.Shapes.{Among, Each, Shape, pointer, space, region, partition, Numeric, NumberIs, World, position_of, IsRegion, IsPartition, Is, is_number, is_space, is_region, is_partition, Are, are_more, Origin, unknown}
use Rattle.fit_rules.specs.Marks.{stacked}
use Rattle.fit_rules.specs.Fits.{Program, Fits}
use Rattle.fit_rules.specs.Sound.{To, HasRegion, HasPartition}
use Rattle.fit_rules.specs.Ends.{Safe, safe_stops}
use Rattle.fit_laws.proofs.Held.{over, region_held}
use Rattle.fit_laws.proofs.Lookup.{value_at}
use Rattle.fit_rules.proofs.Points.{has_below}
use Rattle.fit_laws.proofs.Numbers.{point_below}
use Rattle.fit_laws.proofs.Straight.{safe_next, safe_number, pushed}
use Rattle.fit_laws.proofs.Access.{region_at, slot_of}

pub kept_pointer_is : (k j n : ℕ) → j ≤ k → k < 2 ^ 31 → n < 2 ^ 32 →
    NumberIs (pointer k) (kept_target (point_target n j))
kept_pointer_is k j n h l s = (omega (arith, ints, h, l, s), omega (arith, h, l, s))

abbrev number : Target → ℕ
number null_target = 0
number (point_target p i) = p

abbrev IsFalse : Bool → Type 0
IsFalse false = Unit {0}
IsFalse true = ⊥

none_true : false ≡ true → ⊥
none_true e = subst IsFalse e tt

null_is : (k : ℕ) → NumberIs (pointer k) (negsuc 0)
null_is k = (omega (arith, ints), omega arith)

-- what has a colour is a child
among_get : (rs : List RegionValue) (c : ℕ) (r : RegionValue) → slice_get rs c ≡ Some r → Among rs r
among_get [] c r e = absurd (none-some r e)
among_get (q ∷ rs) zero r e = inl (same_Some _ _ e)
among_get (q ∷ rs) (suc c) r e = inr (among_get rs c r e)

pub among_coloured : (rs : List RegionValue) (z : ℤ) (r : RegionValue) → coloured rs z ≡ Some r → Among rs r
among_coloured rs (pos c) r e = among_get rs c r e
among_coloured rs (negsuc c) r e = absurd (none-some r e)

module _ (g : Program) (x : World) (t : TaskCode) (k : ℕ) (m : Machine) (fit : Fits g x t k m) where
  abbrev Next : List Shape → Type 0
  Next ss = To g t k (stacked (g.marks k m.frame.pc) ss) (suc m.frame.pc)

  -- ---- moves

  move_target : (js : List ℕ) (n l : ℕ) (ss : List Shape) (to : Target) (st : List Value) → n ≤ length js →
      Each (λ j. j ≤ l) js → l < 2 ^ 31 → Next (pointer l ∷ ss) → Are (over g x k m) ss st → position_of to ≤ n →
      ((p i : ℕ) → to ≡ point_target p i → p < 2 ^ 32) → Safe g x t k (move js to st m)
  move_target js n l ss null_target st h e s to a i b = pushed g x t k m fit (pointer l) ss _ st to (null_is l) a
  move_target js n l ss (point_target p zero) st h e s to a i b = pushed g x t k m fit (pointer l) ss _ st to
      (kept_pointer_is l 0 p (omega arith) s (b p 0 refl)) a
  move_target js n l ss (point_target p (suc i)) st h e s to a q b =
      let w = slot_of g x t k m fit (λ j. j ≤ l) js i e (omega (arith, q, h)) in
      subst (λ o. Safe g x t k (moved_to p o st m)) (sym w.there)
      (pushed g x t k m fit (pointer l) ss _ st to (kept_pointer_is l w.slot p w.holds s (b p (suc i) refl)) a)

  point_number : (z : ℤ) (p i : ℕ) → target_kept z ≡ point_target p i → p < 2 ^ 32
  point_number (pos n) p i e = subst (λ y. y < 2 ^ 32) (ap number e) (point_below n)
  point_number (negsuc n) p i e = omega (arith, subst (λ y. y ≤ 0) (ap number e) (omega arith))

  pub move_safe : (js : List ℕ) (n l : ℕ) (ss : List Shape) (z : ℤ) (st : List Value) → n ≤ length js →
      Each (λ j. j ≤ l) js → l < 2 ^ 31 → Next (pointer l ∷ ss) → Are (over g x k m) ss st → NumberIs (pointer n) z →
      Safe g x t k (move js (target_kept z) st m)
  move_safe js n l ss z st h e s to a i =
      move_target js n l ss (target_kept z) st h e s to a i.1 (point_number z)

  -- ---- elements

  region_point : (r : RegionValue) (sp : Option ℕ) (o : Origin) (n : ℕ) → IsRegion x sp o r →
      has r.points n ≡ true → n < 2 ^ 32
  region_point r sp o n i e = omega (arith, has_below 4194304 r.points n i.set.below e)

  element_held : (sp : Option ℕ) (o : Origin) (r : RegionValue) (z : ℤ) (line : ℕ) (ss : List Shape) (st : List Value) →
      IsRegion x sp o r → Next (pointer 1 ∷ ss) → Are (over g x k m) ss st → Safe g x t k (element (Some r) z line st m)
  element_held sp o r (negsuc n) line ss st i to a = safe_stops _ _ (fit.beside.parts, tt)
  element_held sp o r (pos n) line ss st i to a = tested (has r.points n) refl
    where
      tested : (b : Bool) → has r.points n ≡ b → Safe g x t k (when b
          (next (value.Number (kept_target (point_target n 1)) ∷ st) m)
          (faults OutOfRegion line m))
      tested true e = pushed g x t k m fit (pointer 1) ss _ st to
          (kept_pointer_is 1 1 n (omega arith) (omega arith) (region_point r sp o n i e)) a
      tested false e = safe_stops _ _ (fit.beside.parts, tt)

  pub element_safe : (s : ℕ) (sp : Option ℕ) (z : ℤ) (line : ℕ) (ss : List Shape) (st : List Value) →
      HasRegion (g.marks k m.frame.pc) sp s → Next (pointer 1 ∷ ss) → Are (over g x k m) ss st →
      Safe g x t k (element (region_slot m s) z line st m)
  element_safe s sp z line ss st h to a =
      let r = region_at g x t k m fit sp h.origin s h.shape in
      subst (λ o. Safe g x t k (element o z line st m)) (sym r.there)
      (element_held sp h.origin r.region_there z line ss st r.is_region_there to a)

  -- ---- casts

  -- each number that a region holds is below 2^32
  abbrev AreSmall : List Region → Type 0
  AreSmall rs = Each (λ (r : Region). (n : ℕ) → has r.points n ≡ true → n < 2 ^ 32) rs

  holding_is : (i l : ℕ) (rs : List Region) (z : ℤ) → AreSmall rs → i + length rs ≤ l → l < 2 ^ 31 →
      NumberIs (pointer l) (kept_target (first_holding i rs z))
  holding_is i l [] z h e s = null_is l
  holding_is i l (r ∷ rs) z h e s = tested z (holds r.points z) refl (holding_is (suc i) l rs z h.1 (omega (arith, e)) s)
    where
      tested : (z : ℤ) (b : Bool) → holds r.points z ≡ b → NumberIs (pointer l) (kept_target (first_holding (suc i) rs z)) →
          NumberIs (pointer l) (kept_target (cond b (point_target (nat_abs z) (suc i)) (first_holding (suc i) rs z)))
      tested z false q more = more
      tested (pos n) true q more = kept_pointer_is l (suc i) n (omega (arith, e)) s (h.0 n q)
      tested (negsuc n) true q more = absurd (none_true q)

  pub record RegionsAt (ss : List ℕ) : Type 0 where
    pub regions : List Region
    pub there : regions_in m.frame.slots ss ≡ Some regions
    pub long : length regions ≡ length ss
    pub are_small : AreSmall regions

  regions_at : (sp : Option ℕ) (ss : List ℕ) → Each (HasRegion (g.marks k m.frame.pc) sp) ss → RegionsAt ss
  regions_at sp [] h = record { regions = []; there = refl; long = refl; are_small = tt }
  regions_at sp (s ∷ ss) h =
      let r = region_at g x t k m fit sp h.0.origin s h.0.shape in
      let more = regions_at sp ss h.1 in
      record {
        regions = plain_region r.region_there ∷ more.regions;
        there = ap (λ o. both_found (plain_of o) (regions_in m.frame.slots ss)) r.there
            ∙ ap (both_found (Some (plain_region r.region_there))) more.there;
        long = ap suc more.long;
        are_small = (λ n e. region_point r.region_there sp h.0.origin n r.is_region_there e, more.are_small);
      }

  pub cast_safe : (sp : Option ℕ) (rs : List ℕ) (z : ℤ) (ss : List Shape) (st : List Value) →
      Each (HasRegion (g.marks k m.frame.pc) sp) rs → length rs < 2 ^ 31 → Next (pointer (length rs) ∷ ss) →
      Are (over g x k m) ss st → Safe g x t k (cast (regions_in m.frame.slots rs) z st m)
  cast_safe sp rs z ss st h l to a =
      let w = regions_at sp rs h in
      subst (λ o. Safe g x t k (cast o z st m)) (sym w.there)
      (pushed g x t k m fit (pointer (length rs)) ss _ st to
      (holding_is 0 (length rs) w.regions z w.are_small (omega (arith, w.long)) l) a)

  cast_target : (n : ℕ) (rs : List Region) (to : Target) (ss : List Shape) (st : List Value) → AreSmall rs →
      length rs ≤ n → n < 2 ^ 31 → Next (pointer n ∷ ss) → Are (over g x k m) ss st →
      Safe g x t k (cast_pointer (Some rs) to st m)
  cast_target n rs null_target ss st h e l to a = pushed g x t k m fit (pointer n) ss _ st to (null_is n) a
  cast_target n rs (point_target p i) ss st h e l to a = pushed g x t k m fit (pointer n) ss _ st to
      (holding_is 0 n rs (pos p) h (omega (arith, e)) l) a

  pub cast_pointer_safe : (sp : Option ℕ) (rs : List ℕ) (to : Target) (ss : List Shape) (st : List Value) →
      Each (HasRegion (g.marks k m.frame.pc) sp) rs → length rs < 2 ^ 31 → Next (pointer (length rs) ∷ ss) →
      Are (over g x k m) ss st → Safe g x t k (cast_pointer (regions_in m.frame.slots rs) to st m)
  cast_pointer_safe sp rs to ss st h l nx a =
      let w = regions_at sp rs h in
      subst (λ o. Safe g x t k (cast_pointer o to st m)) (sym w.there)
      (cast_target (length rs) w.regions to ss st w.are_small (omega (arith, w.long)) l nx a)

  -- ---- index spaces

  pub space_safe : (z : ℤ) (line : ℕ) (ss : List Shape) (st : List Value) → Next (space ∷ ss) → Are (over g x k m) ss st →
      Safe g x t k (space_code z line st m)
  space_safe (negsuc n) line ss st to a = safe_stops _ _ (fit.beside.parts, tt)
  space_safe (pos n) line ss st to a = tested (nat_le n 4194304) refl
    where
      tested : (b : Bool) → nat_le n 4194304 ≡ b → Safe g x t k (when b (next (value.Space n ∷ st) m)
          (faults BadSize line m))
      tested true e = safe_next g x t k m fit (space ∷ ss) _ to
          (are_more space _ ss st (is_space n (leb-true n 4194304 e)) a)
      tested false e = safe_stops _ _ (fit.beside.parts, tt)

  -- ---- partitions

  pub record PartitionAt (sp : Option ℕ) (d : Bool) (s : ℕ) : Type 0 where
    pub partition_there : PartitionValue
    pub there : partition_slot m s ≡ Some partition_there
    pub is_partition_there : IsPartition x sp d partition_there

  pub partition_at : (sp : Option ℕ) (s : ℕ) (h : HasPartition (g.marks k m.frame.pc) sp s) → PartitionAt sp h.disjoint s
  partition_at sp s h =
      let v = value_at x _ _ s _ fit.suits.slots h.shape in of_value v.value v.at v.of
    where
      of_value : (v : Value) → slice_get m.frame.slots s ≡ Some v → Is x (partition sp h.disjoint) v →
          PartitionAt sp h.disjoint s
      of_value _ e (is_partition _ _ q i) = record { partition_there = q; there = ap partition_in e; is_partition_there = i }
      of_value _ e (is_number _ z h) = absurd h

  pub colors_safe : (s : ℕ) (sp : Option ℕ) (ss : List Shape) → HasPartition (g.marks k m.frame.pc) sp s →
      Next (space ∷ ss) → Are (over g x k m) ss m.frame.stack → Safe g x t k (colors s m)
  colors_safe s sp ss h to a =
      let q = partition_at sp s h in
      subst (λ o. Safe g x t k (with_partition o m (λ p. when (nat_le (length p.children) 4194304)
      (next (value.Space (length p.children) ∷ m.frame.stack) m) (broken m)))) (sym q.there)
      (subst (λ b. Safe g x t k (when b (next (value.Space (length q.partition_there.children) ∷ m.frame.stack) m) (broken m)))
      (sym (le-leb _ 4194304 q.is_partition_there.count))
      (safe_next g x t k m fit (space ∷ ss) _ to
      (are_more space _ ss _ (is_space _ q.is_partition_there.count) a)))

  child_found : (sp : Option ℕ) (o : Option RegionValue) (line : ℕ) (ss : List Shape) (st : List Value) →
      ((r : RegionValue) → o ≡ Some r → IsRegion x sp unknown r) → Next (region sp unknown ∷ ss) → Are (over g x k m) ss st →
      Safe g x t k (child_at o line st m)
  child_found sp None line ss st h to a = safe_stops _ _ (fit.beside.parts, tt)
  child_found sp (Some r) line ss st h to a = safe_next g x t k m fit (region sp unknown ∷ ss) _ to
      (are_more _ _ ss st (is_region sp unknown r (region_held x _ sp unknown r tt (h r refl))) a)

  pub child_safe : (s line : ℕ) (sp : Option ℕ) (b : Shape) (ss : List Shape) →
      HasPartition (g.marks k m.frame.pc) sp s → Numeric b → Next (region sp unknown ∷ ss) →
      Are (over g x k m) (b ∷ ss) m.frame.stack → Safe g x t k (child s line m)
  child_safe s line sp b ss h n to a =
      let q = partition_at sp s h in
      subst (λ o. Safe g x t k (with_partition o m (λ p.
      on_number m.frame.stack m (λ z st. child_at (coloured p.children z) line st m))))
      (sym q.there)
      (safe_number g x t k m fit b ss m.frame.stack _ n a (λ z st i c. child_found sp _ line ss st
      (λ r e. (q.is_partition_there.regions r (among_coloured q.partition_there.children z r e)).1) to c))
