-- A mark that a frame suits it suits also once a child's value stands in the slots that wait for it, where each
-- colour that a fact names is a number already.
use Rattle.std.proofs.Common.{◌≡◌, ℕ, ℤ, List, [], ◌∷◌, map, option_map, Bool, true, false, cond, Option, Some, None, refl, sym, ap, ◌∙◌, subst}
use Rattle.std.specs.Prelude.{slice_get, take, ◌==◌}
use Rattle.std.specs.List.{take-map}
use Rattle.std.proofs.lemmas.Bool.{eqb-true}
use Rattle.std.proofs.lemmas.Option.{slice_get-map}
use Rattle.machine_terms.specs.declared.value.RegionValue.{RegionValue}
use Rattle.machine_terms.specs.declared.value.PartitionValue.{PartitionValue}
use Rattle.machine_terms.specs.declared.value.Value.{Value}
use Rattle.machine_terms.specs.declared.value.Value.TheVariants as value
use Rattle.machine_terms.specs.Orders.{settled}
use Rattle.machine_terms.specs.Pointers.{region_in}
use Rattle.machine_terms.specs.Regions.{partition_in}
use Rattle.fit_rules.specs.Shapes.{Each, HasPoint, IsChild, Shape, awaited, Numeric, numeric_integer, numeric_truth, numeric_index, numeric_pointer, NumberIs, World, Is, is_anything, is_number, is_space, is_region, is_partition, is_cut, is_pending, Are, are_none, are_more}
use Rattle.fit_rules.specs.Marks.{Colour, the_colour, colour_in, point_in, any_colour, Spot, in_slot, child_in, Fact, lies, apart, parted, counts, HasNumber, HasColour, IsAt, LiesAt, IsParted, AtMost, size_in, Holds, TopFact, top_colour, top_at, top_parted, HoldsTop, Mark, Suits, around, IsStanding, SpotStands, ColoursStand}
use Rattle.fit_laws.proofs.Held.{are_held}
use Rattle.fit_laws.proofs.Lookup.{value_at}

module _ (x : World) (i : ℕ) (z : ℤ) (h : NumberIs (x.results i) z) where
  settled_is : (s : Shape) (v : Value) → Is x s v → Is x s (settled i z v)
  settled_is _ _ (is_anything v) = is_anything _
  settled_is _ _ (is_number s y q) = is_number s y q
  settled_is _ _ (is_space n l) = is_space n l
  settled_is _ _ (is_region sp o r q) = is_region sp o r q
  settled_is _ _ (is_partition sp d p q) = is_partition sp d p q
  settled_is _ _ (is_cut sp d o p q c) = is_cut sp d o p q c
  settled_is _ _ (is_pending s j l q) = of_test (i == j) refl
    where
      of_test : (b : Bool) → i == j ≡ b → Is x (awaited s) (cond b (value.Number z) (value.Pending j))
      of_test true e = is_number (awaited s) z (q z (subst (λ k. NumberIs (x.results k) z) (eqb-true i j e) h))
      of_test false e = is_pending s j l q

  settled_are : (ss : List Shape) (vs : List Value) → Are x ss vs → Are x ss (map (settled i z) vs)
  settled_are _ _ are_none = are_none
  settled_are _ _ (are_more s v ss vs q a) = are_more s _ ss _ (settled_is s v q) (settled_are ss vs a)

module _ (i : ℕ) (z : ℤ) (vs : List Value) where
  abbrev us : List Value
  us = map (settled i z) vs

  at : (k : ℕ) → slice_get us k ≡ option_map (settled i z) (slice_get vs k)
  at k = slice_get-map (settled i z) vs k

  -- regions and partitions stay
  stays : {A : Type 0} (of : Value → Option A) → ((y : ℤ) → of (value.Number y) ≡ None) → ((j : ℕ) → of (value.Pending j) ≡ None) →
      (v : Value) → of (settled i z v) ≡ of v
  stays of num pend (value.Number y) = refl
  stays of num pend (value.Space n) = refl
  stays of num pend (value.Region r) = refl
  stays of num pend (value.Partition q) = refl
  stays of num pend (value.Pending j) = of_test (i == j)
    where
      of_test : (b : Bool) → of (cond b (value.Number z) (value.Pending j)) ≡ of (value.Pending j)
      of_test true = num z ∙ sym (pend j)
      of_test false = refl

  region_same : (o : Option Value) → region_in (option_map (settled i z) o) ≡ region_in o
  region_same None = refl
  region_same (Some v) = stays (λ y. region_in (Some y)) (λ y. refl) (λ j. refl) v

  partition_same : (o : Option Value) → partition_in (option_map (settled i z) o) ≡ partition_in o
  partition_same None = refl
  partition_same (Some v) = stays (λ y. partition_in (Some y)) (λ y. refl) (λ j. refl) v

  region_kept : (k : ℕ) → region_in (slice_get us k) ≡ region_in (slice_get vs k)
  region_kept k = ap region_in (at k) ∙ region_same (slice_get vs k)

  partition_kept : (k : ℕ) → partition_in (slice_get us k) ≡ partition_in (slice_get vs k)
  partition_kept k = ap partition_in (at k) ∙ partition_same (slice_get vs k)

  -- ---- what was so is so

  number_kept : (y : ℤ) (o : Option Value) → HasNumber y o → HasNumber y (option_map (settled i z) o)
  number_kept y (Some (value.Number w)) h = h
  number_kept y None h = absurd h
  number_kept y (Some (value.Space n)) h = absurd h
  number_kept y (Some (value.Region r)) h = absurd h
  number_kept y (Some (value.Partition q)) h = absurd h
  number_kept y (Some (value.Pending j)) h = absurd h

  point_kept : (y : ℤ) (o : Option Value) → HasPoint y o → HasPoint y (option_map (settled i z) o)
  point_kept y (Some (value.Number w)) h = h
  point_kept y None h = absurd h
  point_kept y (Some (value.Space n)) h = absurd h
  point_kept y (Some (value.Region r)) h = absurd h
  point_kept y (Some (value.Partition q)) h = absurd h
  point_kept y (Some (value.Pending j)) h = absurd h

  colour_kept : (c : Colour) (y : ℤ) → HasColour vs c y → HasColour us c y
  colour_kept (the_colour w) y h = h
  colour_kept (colour_in s) y h = subst (HasNumber y) (sym (at s)) (number_kept y (slice_get vs s) h)
  colour_kept (point_in s) y h = subst (HasPoint y) (sym (at s)) (point_kept y (slice_get vs s) h)
  colour_kept any_colour y h = h

  spot_kept : (a : Spot) (r : RegionValue) → IsAt vs a r → IsAt us a r
  spot_kept (in_slot s) r h = region_kept s ∙ h
  spot_kept (child_in p c) r h = record {
    parts = h.parts;
    there = partition_kept p ∙ h.there;
    colour = h.colour;
    has_colour = colour_kept c h.colour h.has_colour;
    child = h.child;
  }

  lies_kept : (r : RegionValue) (b : Spot) → LiesAt vs r b → LiesAt us r b
  lies_kept r b w = record { other = w.other; at = spot_kept b w.other w.at; inside = w.inside }

  parted_kept : (q : PartitionValue) (s : ℕ) → IsParted vs q s → IsParted us q s
  parted_kept q s w = record { parent = w.parent; at = region_kept s ∙ w.at; root = w.root; inside = w.inside }

  counts_kept : (d c : Option Value) → AtMost (size_in d) c →
      AtMost (size_in (option_map (settled i z) d)) (option_map (settled i z) c)
  counts_kept (Some (value.Space n)) (Some (value.Number y)) h = h
  counts_kept (Some (value.Region r)) (Some (value.Number y)) h = h
  counts_kept (Some (value.Space n)) None h = absurd h
  counts_kept (Some (value.Space n)) (Some (value.Space m)) h = absurd h
  counts_kept (Some (value.Space n)) (Some (value.Region m)) h = absurd h
  counts_kept (Some (value.Space n)) (Some (value.Partition m)) h = absurd h
  counts_kept (Some (value.Space n)) (Some (value.Pending m)) h = absurd h
  counts_kept (Some (value.Region r)) None h = absurd h
  counts_kept (Some (value.Region r)) (Some (value.Space m)) h = absurd h
  counts_kept (Some (value.Region r)) (Some (value.Region m)) h = absurd h
  counts_kept (Some (value.Region r)) (Some (value.Partition m)) h = absurd h
  counts_kept (Some (value.Region r)) (Some (value.Pending m)) h = absurd h
  counts_kept None c h = absurd h
  counts_kept (Some (value.Number y)) c h = absurd h
  counts_kept (Some (value.Partition q)) c h = absurd h
  counts_kept (Some (value.Pending j)) c h = absurd h

  -- ---- what is so was so, where colours are numbers

  module _ (x : World) (ss : List Shape) (are : Are x ss vs) where
    same_number : (s : ℕ) (a : Shape) (v : Value) → Numeric a → Is x a v → slice_get vs s ≡ Some v → slice_get us s ≡ slice_get vs s
    same_number s _ _ (numeric_integer w) (is_number _ y q) e = at s ∙ ap (option_map (settled i z)) e ∙ sym e
    same_number s _ _ numeric_truth (is_number _ y q) e = at s ∙ ap (option_map (settled i z)) e ∙ sym e
    same_number s _ _ numeric_index (is_number _ y q) e = at s ∙ ap (option_map (settled i z)) e ∙ sym e
    same_number s _ _ (numeric_pointer n) (is_number _ y q) e = at s ∙ ap (option_map (settled i z)) e ∙ sym e

    colour_was : (c : Colour) (y : ℤ) → IsStanding ss c → HasColour us c y → HasColour vs c y
    colour_was (the_colour w) y st h = h
    colour_was (colour_in s) y st h =
        let v = value_at x ss vs s st.0 are st.1 in
        subst (HasNumber y) (same_number s st.0 v.value st.2 v.of v.at) h
    colour_was (point_in s) y st h =
        let v = value_at x ss vs s st.0 are st.1 in
        subst (HasPoint y) (same_number s st.0 v.value st.2 v.of v.at) h
    colour_was any_colour y st h = h

    spot_was : (a : Spot) (r : RegionValue) → SpotStands ss a → IsAt us a r → IsAt vs a r
    spot_was (in_slot s) r st h = sym (region_kept s) ∙ h
    spot_was (child_in p c) r st h = record {
      parts = h.parts;
      there = sym (partition_kept p) ∙ h.there;
      colour = h.colour;
      has_colour = colour_was c h.colour st h.has_colour;
      child = h.child;
    }

    fact_kept : (k : Fact) → ColoursStand ss k → Holds k vs → Holds k us
    fact_kept (lies a b) st f = λ r h. lies_kept r b (f r (spot_was a r st h))
    fact_kept (apart a b) st f = λ r q h l. f r q (spot_was a r st.0 h) (spot_was b q st.1 l)
    fact_kept (parted p s) st f = λ q e. parted_kept q s (f q (sym (partition_kept p) ∙ e))
    fact_kept (counts c s) st f =
        subst (λ o. AtMost (size_in o) (slice_get us c)) (sym (at s))
        (subst (AtMost (size_in (option_map (settled i z) (slice_get vs s)))) (sym (at c))
        (counts_kept (slice_get vs s) (slice_get vs c) f))

    facts_kept : (ks : List Fact) → Each (ColoursStand ss) ks → Each (λ k. Holds k vs) ks → Each (λ k. Holds k us) ks
    facts_kept [] st h = tt
    facts_kept (k ∷ ks) st h = (fact_kept k st.0 h.0, facts_kept ks st.1 h.1)

  top_kept : (k : TopFact) (st : List Value) → HoldsTop k vs st → HoldsTop k us st
  top_kept (top_colour c) (value.Number y ∷ st) h = colour_kept c y h
  top_kept (top_at b) (value.Region r ∷ st) h = spot_kept b r h
  top_kept (top_parted s) (value.Partition q ∷ st) h = parted_kept q s h
  top_kept (top_colour c) [] h = absurd h
  top_kept (top_colour c) (value.Space _ ∷ st) h = absurd h
  top_kept (top_colour c) (value.Region _ ∷ st) h = absurd h
  top_kept (top_colour c) (value.Partition _ ∷ st) h = absurd h
  top_kept (top_colour c) (value.Pending _ ∷ st) h = absurd h
  top_kept (top_at b) [] h = absurd h
  top_kept (top_at b) (value.Number _ ∷ st) h = absurd h
  top_kept (top_at b) (value.Space _ ∷ st) h = absurd h
  top_kept (top_at b) (value.Partition _ ∷ st) h = absurd h
  top_kept (top_at b) (value.Pending _ ∷ st) h = absurd h
  top_kept (top_parted s) [] h = absurd h
  top_kept (top_parted s) (value.Number _ ∷ st) h = absurd h
  top_kept (top_parted s) (value.Space _ ∷ st) h = absurd h
  top_kept (top_parted s) (value.Region _ ∷ st) h = absurd h
  top_kept (top_parted s) (value.Pending _ ∷ st) h = absurd h

  tops_kept : (ks : List TopFact) (st : List Value) → Each (λ k. HoldsTop k vs st) ks → Each (λ k. HoldsTop k us st) ks
  tops_kept [] st h = tt
  tops_kept (k ∷ ks) st h = (top_kept k st h.0, tops_kept ks st h.1)

-- what suits a mark suits it also once a child's value stands in the slots that wait for it
abbrev Settles : ℕ → Mark → Type 0
Settles params m = (x : World) (vs st : List Value) (i : ℕ) (z : ℤ) → Suits x params m vs st →
    NumberIs (x.results i) z → Suits x params m (map (settled i z) vs) st

pub settles : (params : ℕ) (m : Mark) → Each (ColoursStand m.slots) m.facts → Settles params m
settles params m stands x vs st i z s h = record {
  slots = settled_are x i z h m.slots vs s.slots;
  stack = are_held (around x m vs) (take m.fixed (map (settled i z) vs)) (λ p c r h. subst (λ us. IsChild us p c r) (sym (take-map (settled i z) m.fixed vs))
      (spot_kept i z (take m.fixed vs) (child_in p c) r h))
      (λ p r h. subst (λ us. region_in (slice_get us p) ≡ Some r) (sym (take-map (settled i z) m.fixed vs)) (spot_kept i z (take m.fixed vs) (in_slot p) r h)) m.stack st s.stack;
  facts = facts_kept i z vs x m.slots s.slots m.facts stands s.facts;
  top = tops_kept i z vs m.top st s.top;
  args = λ k l. region_kept i z vs k ∙ s.args k l;
}
