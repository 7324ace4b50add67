-- What is known of regions at a place, read as claims on the regions of the task's arguments and on the roots that it made: it
-- holds, and so does what is derived of it.
use Rattle.std.proofs.Common.{◌≡◌, ◌≢◌, inl, inr, ℕ, ◌<◌, ◌≤◌, List, [], Bool, true, false, cond, Option, None, Some, refl, sym, ap, ◌∙◌, subst, arith, leb-true, negsuc}
use Rattle.std.specs.Prelude.{nat_le, pos, slice_get}
use Rattle.std.proofs.lemmas.Bool.{false≢true, le-leb}
use Rattle.plain_values.specs.Points.{has}
use Rattle.regent_tree.proofs.Members.{Has, Has-from_Contains}
use Rattle.regent_tree.specs.Facts.{are_disjoint}
use Rattle.regent_tree.specs.Values.{Region, no_region}
use Rattle.regent_tree.specs.declared.facts.Colour.{Colour}
use Rattle.regent_tree.specs.declared.facts.Colour.TheVariants.{Constant, Loop, Unknown}
use Rattle.regent_tree.specs.declared.facts.Known.{Known}
use Rattle.regent_tree.specs.declared.facts.Term.TheVariants.{Child, Name}
use Rattle.machine_terms.specs.declared.value.RegionValue.{RegionValue}
use Rattle.machine_terms.specs.declared.value.Value.{Value}
use Rattle.machine_terms.specs.Pointers.{region_in}
use Rattle.fact_laws.specs.Regions.{AllHold, Holds as FactHolds, Interpretation, IsIn, LiesWithin, LiesWithinSome, SharesNoPoint, child_at}
use Rattle.fact_laws.proofs.Facts.{answers_hold}
use Rattle.fit_rules.specs.Shapes.{Among, KnowsRoots, World}
use Rattle.fit_rules.specs.Marks.{Fact, Holds, in_slot, LiesAt}
use Rattle.marked_code.proofs.Placed.{below}
use Rattle.sound_code.proofs.Grounds.{IsTold, tells_apart, tells_begun, tells_made, tells_part, tells_within}

-- ---- regions by their numbers

-- a region as what a program means has it
abbrev pub meant : RegionValue → Region
meant r = record { root = r.root.0; points = r.points }

abbrev pub taken_at : Option RegionValue → Region
taken_at None = no_region
taken_at (Some r) = meant r

abbrev pub made_at : World → Option ℕ → Region
made_at x None = no_region
made_at x (Some r) = record { root = r; points = x.points r }

-- that of an argument, or the root that the task made last under the number; one that began as a part is read as none
abbrev pub behind_at : World → ℕ → Option (ℕ × ℕ) → Region
behind_at x i None = made_at x (x.last i)
behind_at x i (Some k) = no_region

abbrev pub region_at : World → ℕ → (ℕ → Option (ℕ × ℕ)) → ℕ → Region
region_at x params up i = cond (nat_le params i) (behind_at x i (up i)) (taken_at (region_in (slice_get x.args i)))

abbrev pub standing_for : World → ℕ → (ℕ → Option (ℕ × ℕ)) → Interpretation
standing_for x params up = record {
  region = region_at x params up;
  partition = λ p. record { root = 0; disjoint = true; sets = [] };
  number = λ i. pos 0;
}

pub not_below : (a b : ℕ) → b < a → nat_le a b ≡ false
not_below a b l = of (nat_le a b) refl
  where
    of : (c : Bool) → nat_le a b ≡ c → nat_le a b ≡ false
    of true e = absurd (omega (arith, l, leb-true a b e))
    of false e = e

module _ (x : World) (params : ℕ) (up : ℕ → Option (ℕ × ℕ)) where
  pub low_region : (i : ℕ) → i < params → region_at x params up i ≡ taken_at (region_in (slice_get x.args i))
  low_region i l = ap (λ b. cond b (behind_at x i (up i)) (taken_at (region_in (slice_get x.args i)))) (not_below params i l)

  pub high_region : (i : ℕ) (o : Option (ℕ × ℕ)) → params ≤ i → up i ≡ o → region_at x params up i ≡ behind_at x i o
  high_region i o l e = ap (λ b. cond b (behind_at x i (up i)) (taken_at (region_in (slice_get x.args i)))) (le-leb params i l) ∙ ap (behind_at x i) e

-- ---- what is known holds

nothing_in : (root point : ℕ) → IsIn no_region root point → ⊥
nothing_in root point h = false≢true h.1

module _ (x : World) (params : ℕ) (up : ℕ → Option (ℕ × ℕ)) (vs : List Value) (knows : KnowsRoots x)
    (args : (i : ℕ) → i < params → region_in (slice_get vs i) ≡ region_in (slice_get x.args i))
    (ks : List Fact) (holds : (k : Fact) → Among ks k → Holds k vs) where
  taken_lies : (b : ℕ) (o : Option RegionValue) → ((r : RegionValue) → o ≡ Some r → LiesAt vs r (in_slot b)) → b < params →
      LiesWithin (taken_at o) (taken_at (region_in (slice_get x.args b)))
  taken_lies b None h l root point i = absurd (nothing_in root point i)
  taken_lies b (Some r) h l root point i =
      let w = h r refl in
      subst (λ q. IsIn (taken_at q) root point) (sym w.at ∙ args b l) (sym w.inside.0 ∙ i.0, w.inside.1 point i.1)

  taken_apart : (o q : Option RegionValue) → ((r u : RegionValue) → o ≡ Some r → q ≡ Some u → r.root.0 ≡ u.root.0 → (p : ℕ) →
      has r.points p ≡ true → has u.points p ≡ false) → SharesNoPoint (taken_at o) (taken_at q)
  taken_apart None q h root point i j = nothing_in root point i
  taken_apart (Some r) None h root point i j = nothing_in root point j
  taken_apart (Some r) (Some u) h root point i j = false≢true (sym (h r u refl refl (i.0 ∙ sym j.0) point i.1) ∙ j.1)

  -- what was made shares no point with an argument, nor with what was made under another number
  made_from_taken : (i r : ℕ) (o : Option ℕ) (q : Option RegionValue) → x.last i ≡ o → region_in (slice_get x.args r) ≡ q →
      SharesNoPoint (made_at x o) (taken_at q)
  made_from_taken i r None q e f root point h j = nothing_in root point h
  made_from_taken i r (Some u) None e f root point h j = nothing_in root point j
  made_from_taken i r (Some u) (Some v) e f root point h j = knows.args_other r i point v f j.1 (e ∙ ap Some (h.0 ∙ sym j.0))

  made_from_made : (i r : ℕ) (o q : Option ℕ) → x.last i ≡ o → x.last r ≡ q → i ≢ r → SharesNoPoint (made_at x o) (made_at x q)
  made_from_made i r None q e f n root point h j = nothing_in root point h
  made_from_made i r (Some u) None e f n root point h j = nothing_in root point j
  made_from_made i r (Some u) (Some v) e f n root point h j = n (knows.one_number i r u point e (f ∙ ap Some (j.0 ∙ sym h.0)) h.1)

  abbrev m : Interpretation
  m = standing_for x params up

  told_holds : (k : Known) → IsTold params up ks k → FactHolds m k
  told_holds _ (tells_within a b la lb h) = λ r e. record {
    outer = region_at x params up b;
    stands = refl;
    lies = subst (λ q. LiesWithin q (region_at x params up b)) (sym (low_region x params up a la) ∙ e)
        (subst (LiesWithin (taken_at (region_in (slice_get x.args a)))) (sym (low_region x params up b lb))
        (taken_lies b (region_in (slice_get x.args a)) (λ u f. holds _ h u (args a la ∙ f)) lb));
  }
  told_holds _ (tells_apart a b la lb h) = λ r t e f.
      subst (λ q. SharesNoPoint q t) (sym (low_region x params up a la) ∙ e)
      (subst (SharesNoPoint (taken_at (region_in (slice_get x.args a)))) (sym (low_region x params up b lb) ∙ f)
      (taken_apart (region_in (slice_get x.args a)) (region_in (slice_get x.args b)) (λ u v p q. holds _ h u v (args a la ∙ p) (args b lb ∙ q))))
  told_holds _ (tells_part p r d) = record {
    within = λ c root point i. absurd (no_child c root point i);
    apart = λ e c d n root point i j. no_child c root point i;
  }
    where
      no_child : (c : _) (root point : ℕ) → IsIn (child_at (m.partition p) c) root point → ⊥
      no_child (pos c) root point i = false≢true i.1
      no_child (negsuc c) root point i = false≢true i.1
  told_holds _ (tells_made i l e) = λ r lr. subst (λ q. SharesNoPoint q (region_at x params up r)) (sym (high_region x params up i None l e)) (elim (below r params) [
    | inl low ↦ subst (SharesNoPoint (made_at x (x.last i))) (sym (low_region x params up r low))
        (made_from_taken i r (x.last i) (region_in (slice_get x.args r)) refl refl)
    | inr high ↦ subst (SharesNoPoint (made_at x (x.last i))) (sym (high_region x params up r (up r) high refl)) (of_behind i r (λ e. omega (arith, e, lr)) (up r))
  ])
    where
      of_behind : (i r : ℕ) → i ≢ r → (o : Option (ℕ × ℕ)) → SharesNoPoint (made_at x (x.last i)) (behind_at x r o)
      of_behind i r n None = made_from_made i r (x.last i) (x.last r) refl refl n
      of_behind i r n (Some k) = λ root point h j. nothing_in root point j
  told_holds _ (tells_begun i p k c l e) = λ r er. by c r (sym er ∙ high_region x params up i (Some k) l e)
    where
      -- what is read as none lies within a child of each colour
      none_lies : (r q : Region) → r ≡ no_region → LiesWithin r q
      none_lies r q same root point h = absurd (nothing_in root point (subst (λ d. IsIn d root point) same h))

      by : (c : Colour) (r : Region) → r ≡ no_region → LiesWithinSome m r (Child p c)
      by (Constant z) r same = record { outer = child_at (m.partition p) z; stands = record { number = z; is_colour = refl; is_child = refl }; lies = none_lies r (child_at (m.partition p) z) same }
      by (Loop n) r same = record {
        outer = child_at (m.partition p) (m.number n);
        stands = record { number = m.number n; is_colour = refl; is_child = refl };
        lies = none_lies r (child_at (m.partition p) (m.number n)) same;
      }
      by Unknown r same = record { outer = child_at (m.partition p) (pos 0); stands = record { number = pos 0; is_colour = tt; is_child = refl }; lies = none_lies r (child_at (m.partition p) (pos 0)) same }

  module _ (known : List Known) (told : (k : Known) → Has known k → IsTold params up ks k) where
    all_hold : AllHold m known
    all_hold k c = told_holds k (told k (Has-from_Contains known k c))

    -- regions that are derived to share no point share none
    pub apart_by_number : (i j : ℕ) → are_disjoint known (Name i) (Name j) ≡ true → SharesNoPoint (region_at x params up i) (region_at x params up j)
    apart_by_number i j e = (answers_hold m known all_hold (Name i) (Name j)).disjoint e (region_at x params up i) (region_at x params up j) refl refl
