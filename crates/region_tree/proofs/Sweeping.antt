-- A sweep over spans that are sorted by their first points.
use Rattle.std.proofs.Common.{◌≡◌, ◌≢◌, ℕ, ◌+◌, ◌<◌, ◌≤◌, cond, ltb, ⊎_elim, List, length, get_or}
use Rattle.std.proofs.Common.{sym, ap, ◌∙◌, subst, arith}
use Rattle.std.proofs.lemmas.Bool.{cases_lt, cases_eq, ltb-true, ltb-false, cond_both}
use Rattle.std.proofs.lemmas.List.{get_or_default}
use Rattle.std.specs.List.{Contains}
use Rattle.std.specs.List.Sorted.{IsNonDecreasingBy}
use Rattle.region_tree.specs.Sharing.{Holds, IsShared}
use Rattle.region_tree.specs.declared.sweep.Span.{Span}

abbrev pub no_span : Span
no_span = record { first = 0; end = 0; colour = 0 }

abbrev span_at : List Span → ℕ → Span
span_at spans k = get_or spans k no_span

-- Of the first so many spans no two of different colours hold one point, and this one, if it holds
-- any, is the one of them that reaches furthest.
pub record IsSwept (spans : List Span) (i : ℕ) (reach : Span) : Type 0 where
  pub apart : (k m z : ℕ) → k < i → m < i → (span_at spans k).colour ≢ (span_at spans m).colour →
      Holds (span_at spans k) z → Holds (span_at spans m) z → ⊥
  pub below : (k : ℕ) → k < i → (span_at spans k).end ≤ reach.end
  pub held : 0 < reach.end → (k : ℕ) × (k < i) × (span_at spans k ≡ reach)

pub swept_none : (spans : List Span) → IsSwept spans 0 no_span
swept_none spans = record {
  apart = λ k m z l. absurd (omega arith);
  below = λ k l. absurd (omega arith);
  held = λ l. absurd (omega arith);
}

module _ (spans : List Span) (rising : IsNonDecreasingBy (λ (s : Span). s.first) spans) (i : ℕ)
    (reach u : Span) (l : i < length spans) (is : span_at spans i ≡ u)
    (swept : IsSwept spans i reach) where
  not_before : (k : ℕ) → k < i → (span_at spans k).first ≤ u.first
  not_before k under =
      subst (λ (s : Span). (span_at spans k).first ≤ s.first) is
      (rising k i no_span (omega arith) l)

  not_after : (k : ℕ) → i ≤ k → k < length spans → u.first ≤ (span_at spans k).first
  not_after k over m =
      subst (λ (s : Span). s.first ≤ (span_at spans k).first) is (rising i k no_span over m)

  -- the span at hand holds no point of an earlier one of another colour
  apart_from : (u.first < reach.end → u.colour ≢ reach.colour → ⊥) → (k z : ℕ) → k < i →
      (span_at spans k).colour ≢ u.colour → Holds (span_at spans k) z → Holds u z → ⊥
  apart_from alone k z under ne holds here =
      let far : (span_at spans k).end ≤ reach.end = swept.below k under in
      let over : u.first < reach.end = omega arith in
      let before : (span_at spans k).first ≤ u.first = not_before k under in
      let at = swept.held (omega arith) in
      let reach_before : reach.first ≤ u.first = subst (λ (s : Span). s.first ≤ u.first) at.2
      (not_before at.0 at.1) in
      ⊎_elim (λ same. swept.apart k at.0 u.first under at.1
      (λ e. ne (e ∙ ap (λ (s : Span). s.colour) at.2 ∙ sym same)) (omega arith, omega arith)
      (subst (λ (s : Span). Holds s u.first) (sym at.2) (reach_before, over)))
      (λ other. alone over other) (cases_eq u.colour reach.colour)

  pub swept_more : (u.first < reach.end → u.colour ≢ reach.colour → ⊥) →
      IsSwept spans (i + 1) (cond (ltb reach.end u.end) u reach)
  swept_more alone = record {
    apart = λ k m z a b ne p q. ⊎_elim
        (λ k'. ⊎_elim (λ m'. swept.apart k m z k' m' ne p q)
        (λ m'. apart_from alone k z k' (λ e. ne (e ∙ sym (colour_here m (omega arith)))) p
        (holds_here m (omega arith) z q)) (cases_lt m i))
        (λ k'. ⊎_elim (λ m'. apart_from alone m z m' (λ e. ne (colour_here k (omega arith) ∙ sym e))
        q (holds_here k (omega arith) z p))
        (λ m'. ne (colour_here k (omega arith) ∙ sym (colour_here m (omega arith)))) (cases_lt m i))
        (cases_lt k i);
    below = λ k a. cond_both (ltb reach.end u.end) u reach
        (λ (s : Span). (span_at spans k).end ≤ s.end)
        (λ e. ⊎_elim (λ k'. let far = swept.below k k' in let longer = ltb-true reach.end u.end e in
        omega arith) (λ k'. let here = end_here k (omega arith) in omega arith) (cases_lt k i))
        (λ e. ⊎_elim (λ k'. swept.below k k')
        (λ k'. let here = end_here k (omega arith) in let shorter = ltb-false reach.end u.end e in
        omega arith) (cases_lt k i));
    held = cond_both (ltb reach.end u.end) u reach (λ (s : Span). 0 < s.end → (k : ℕ) ×
        (k < i + 1) × (span_at spans k ≡ s)) (λ e some. (i, omega arith, is))
        (λ e some. let at = swept.held some in (at.0, omega (arith, at.1), at.2));
  }
    where
      here : (k : ℕ) → k ≡ i → span_at spans k ≡ u
      here k e = ap (λ n. span_at spans n) e ∙ is

      colour_here : (k : ℕ) → k ≡ i → (span_at spans k).colour ≡ u.colour
      colour_here k e = ap (λ (s : Span). s.colour) (here k e)

      end_here : (k : ℕ) → k ≡ i → (span_at spans k).end ≡ u.end
      end_here k e = ap (λ (s : Span). s.end) (here k e)

      holds_here : (k : ℕ) → k ≡ i → (z : ℕ) → Holds (span_at spans k) z → Holds u z
      holds_here k e z h = subst (λ (s : Span). Holds s z) (here k e) h

  listed : (k : ℕ) → k < length spans → (s : Span) → span_at spans k ≡ s → Contains spans s
  listed k m s e = (k, m, get_or_default spans k s no_span m ∙ e)

  pub shared_here : u.first < u.end → u.first < reach.end → u.colour ≢ reach.colour →
      IsShared spans u.first
  shared_here some over ne =
      let at = swept.held (omega arith) in
      record {
        one = u;
        other = reach;
        one_listed = listed i l u is;
        other_listed = listed at.0 (omega (arith, at.1)) reach at.2;
        colours = ne;
        one_holds = (omega arith, some);
        other_holds = (subst (λ (s : Span). s.first ≤ u.first) at.2 (not_before at.0 at.1), over);
      }

  pub none_before : (z : ℕ) → z < u.first → ¬ IsShared spans z
  none_before z under s =
      let one = place s.one s.one_listed in
      let other = place s.other s.other_listed in
      swept.apart one.0 other.0 z (early one.0 one.1 s.one one.2 s.one_holds)
      (early other.0 other.1 s.other other.2 s.other_holds)
      (λ e. s.colours (sym (ap (λ (v : Span). v.colour) one.2) ∙ e ∙
      ap (λ (v : Span). v.colour) other.2))
      (subst (λ (v : Span). Holds v z) (sym one.2) s.one_holds)
      (subst (λ (v : Span). Holds v z) (sym other.2) s.other_holds)
    where
      place : (v : Span) → Contains spans v → (k : ℕ) × (k < length spans) × (span_at spans k ≡ v)
      place v c = (c.0, c.1, get_or_default spans c.0 no_span v c.1 ∙ c.2)

      early : (k : ℕ) → k < length spans → (v : Span) → span_at spans k ≡ v → Holds v z → k < i
      early k m v e h = ⊎_elim (λ a. a)
          (λ b. let after : u.first ≤ v.first = subst (λ (w : Span). u.first ≤ w.first) e
          (not_after k b m) in absurd (omega (arith, h.0))) (cases_lt k i)

pub swept_all : (spans : List Span) (i : ℕ) (reach : Span) → length spans ≤ i →
    IsSwept spans i reach → (z : ℕ) → ¬ IsShared spans z
swept_all spans i reach l swept z s =
    let one = place s.one s.one_listed in
    let other = place s.other s.other_listed in
    swept.apart one.0 other.0 z (omega (arith, one.1)) (omega (arith, other.1))
    (λ e. s.colours (sym (ap (λ (v : Span). v.colour) one.2) ∙ e ∙
    ap (λ (v : Span). v.colour) other.2))
    (subst (λ (v : Span). Holds v z) (sym one.2) s.one_holds)
    (subst (λ (v : Span). Holds v z) (sym other.2) s.other_holds)
  where
    place : (v : Span) → Contains spans v → (k : ℕ) × (k < length spans) × (span_at spans k ≡ v)
    place v c = (c.0, c.1, get_or_default spans c.0 no_span v c.1 ∙ c.2)
