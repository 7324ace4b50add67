-- How many words and runs a set takes.
use Rattle.std.proofs.Common.{◌≡◌, ℕ, zero, suc, ◌+◌, ◌-◌, ◌/◌, ◌<◌, ◌≤◌, Bool, true, false, not, ◌&&◌, ◌||◌, eqb, leb, List, [], ◌∷◌, length, get_or, filter, refl, sym, ap, ◌∙◌, subst, arith, ⊎_elim, length-append}
use Rattle.std.proofs.lemmas.Bool.{cases_Bool, cases_lt, cond-true, cond-false, false≢true}
use Rattle.std.proofs.lemmas.Bool.Decides.{nat_tests}
use Rattle.std.proofs.lemmas.List.Elements.{filter-append}
use Rattle.std.proofs.lemmas.List.{get_or_default}
use Rattle.std.proofs.lemmas.Nat.Bits.{bit_at-zero}
use Rattle.plain_values.specs.Points.{counted_from, has}
use Rattle.bit_planes.specs.Planes.{IsBelow, IsSpan, has_point}
use Rattle.point_sets.specs.Forms.{AreEndsOf, AreWordsOf, plane_points, runs_of}
use Rattle.point_sets.specs.Runs.{AreRunEnds, AreRuns, AreRunsFrom, points_in, size_of}
use Rattle.point_sets.specs.declared.runs.Run.{Run}
use Rattle.point_sets.specs.declared.TheConstants.{POINT_LIMIT}
use Rattle.point_sets.proofs.PlaneLists.{has_plane}
use Rattle.point_sets.proofs.Rising.{absent_below, has-append, has_get_or, has_head}
use Rattle.point_sets.proofs.RunLists.{element_at, gap_after, has-run, points_above, points_before, run_at}
use Rattle.point_sets.proofs.RunSearch.{lasts_rise}

-- ---- lists of runs have as many runs

one_kept : (q : ℕ → Bool) (first n : ℕ) → ((z : ℕ) → first ≤ z → z ≤ first + n → q z ≡ eqb z (first + n)) → length (filter q (counted_from first (suc n))) ≡ 1
one_kept q first zero told =
    ap length (cond-true (q first) (first ∷ []) [] (told first (omega arith) (omega arith) ∙ here))
  where
    here : eqb first (first + zero) ≡ true
    here = grind (arith, nat_tests)
one_kept q first (suc n) told =
    let e : suc first + n ≡ first + suc n = omega arith in
    ap length (cond-false (q first) (first ∷ filter q (counted_from (suc first) (suc n))) (filter q (counted_from (suc first) (suc n))) (told first (omega arith) (omega arith) ∙ other))
    ∙ one_kept q (suc first) n (λ z l g. told z (omega arith) (omega arith) ∙ ap (eqb z) (sym e))
  where
    other : eqb first (first + suc n) ≡ false
    other = grind (arith, nat_tests)

runs_counted : (xs : List ℕ) (low count : ℕ) (rs : List Run) → AreRunsFrom low count rs → ((z : ℕ) → low ≤ z → has xs z ≡ has (points_in rs) z) → length (filter (λ x. not (has xs (x + 1))) (points_in rs)) ≡ length rs
runs_counted xs low count [] h same = refl
runs_counted xs low count (r ∷ rs) h same =
    let q : ℕ → Bool = λ x. not (has xs (x + 1)) in
    let mid = counted_from r.first (size_of r) in
    ap length (filter-append q mid (points_in rs)) ∙ length-append (filter q mid) (filter q (points_in rs)) ∙ ap (λ k. k + length (filter q (points_in rs))) one ∙ (let ih = runs_counted xs (r.last + 2) r.total rs h.1 later in let e : 1 + length (filter q (points_in rs)) ≡ suc (length rs) = omega (arith, ih) in e)
  where
    parted : (z : ℕ) → low ≤ z → has xs z ≡ ((leb r.first z && leb z r.last) || has (points_in rs) z)
    parted z l = same z l ∙ has-append (counted_from r.first (size_of r)) (points_in rs) z ∙ ap (λ b. b || has (points_in rs) z) (has-run r z h.0.rises)

    later : (z : ℕ) → r.last + 2 ≤ z → has xs z ≡ has (points_in rs) z
    later z l =
        let above : low ≤ r.first = h.0.above in
        let rises : r.first ≤ r.last = h.0.rises in
        let p = parted z (omega arith) in
        grind (arith, nat_tests)

    told : (z : ℕ) → r.first ≤ z → z ≤ r.last → not (has xs (z + 1)) ≡ eqb z r.last
    told z l g =
        let above : low ≤ r.first = h.0.above in
        let p = parted (z + 1) (omega arith) in
        let out : r.last + 1 < r.last + 2 → has (points_in rs) (r.last + 1) ≡ false = absent_below (r.last + 2) (points_in rs) (points_above (r.last + 2) r.total rs h.1) (r.last + 1) in
        ⊎_elim (λ u. under z l u p) (λ o. let e : z ≡ r.last = omega arith in at z e p (out (omega arith))) (cases_lt z r.last)
      where
        under : (z : ℕ) → r.first ≤ z → z < r.last → has xs (z + 1) ≡ ((leb r.first (z + 1) && leb (z + 1) r.last) || has (points_in rs) (z + 1)) → not (has xs (z + 1)) ≡ eqb z r.last
        under z l u p = grind (arith, nat_tests)

        at : (z : ℕ) → z ≡ r.last → has xs (z + 1) ≡ ((leb r.first (z + 1) && leb (z + 1) r.last) || has (points_in rs) (z + 1)) → has (points_in rs) (r.last + 1) ≡ false → not (has xs (z + 1)) ≡ eqb z r.last
        at z e p out = grind (arith, nat_tests)

    one : length (filter (λ x. not (has xs (x + 1))) (counted_from r.first (size_of r))) ≡ 1
    one =
        let rises : r.first ≤ r.last = h.0.rises in
        let n = r.last - r.first in
        let end : r.first + n ≡ r.last = omega arith in
        ap (λ k. length (filter (λ x. not (has xs (x + 1))) (counted_from r.first k))) (let e : size_of r ≡ suc n = omega arith in e)
        ∙ one_kept (λ x. not (has xs (x + 1))) r.first n (λ z l g. told z l (omega arith) ∙ ap (eqb z) (sym end))

pub runs-points_in : (rs : List Run) → AreRuns rs → runs_of (points_in rs) ≡ length rs
runs-points_in rs h = runs_counted (points_in rs) 0 0 rs h (λ z l. refl)

-- ---- the first point and the last one

pub no_run_ends : AreRunEnds [] 0 0
no_run_ends = record {
  order = omega arith;
  below = omega arith;
  low = λ k d l. absurd (omega arith);
  high = λ k d l. absurd (omega arith);
  first_there = λ l. absurd (omega arith);
  last_there = λ l. absurd (omega arith);
}

module _ (rs : List Run) (h : AreRuns rs) where
  firsts_rise : (k : ℕ) (d : Run) → k < length rs → (get_or rs 0 d).first ≤ (get_or rs k d).first
  firsts_rise zero d l = omega arith
  firsts_rise (suc k) d l =
      let l' : k < length rs = omega arith in
      let before = firsts_rise k d l' in
      let rises = (run_at rs k d h l').rises in
      let gap = gap_after 0 0 rs h k d l in
      omega (arith, gap.0)

  point_at : (k j : ℕ) (d : Run) (l : k < length rs) → j < size_of (get_or rs k d) → has (points_in rs) ((get_or rs k d).first + j) ≡ true
  point_at k j d l m =
      let at = element_at rs k d h l j m in
      subst (λ z. has (points_in rs) z ≡ true) at.1 (has_get_or (points_in rs) _ at.0)

  pub run_ends : (d e : Run) (last : ℕ) → 0 < length rs → last ≡ length rs - 1 → AreRunEnds rs (get_or rs 0 d).first (get_or rs last e).last
  run_ends d e last some at = rw at (ends_at (length rs - 1) (omega arith))
    where
      ends_at : (k : ℕ) → k + 1 ≡ length rs → AreRunEnds rs (get_or rs 0 d).first (get_or rs k e).last
      ends_at k at' =
          let l : k < length rs = omega arith in
          let r = (run_at rs k e h l).rises in
          let below = (run_at rs k e h l).below in
          let f = firsts_rise k e l in
          let same : get_or rs 0 d ≡ get_or rs 0 e = get_or_default rs 0 d e some in
          let r0 = (run_at rs 0 d h some).rises in
          record {
            order = omega (arith, ap (λ (r : Run). r.first) same);
            below = below;
            low = λ j c m. omega (arith, firsts_rise j c m, ap (λ (r : Run). r.first) (get_or_default rs 0 d c some));
            high = λ j c m. omega (arith, lasts_rise rs h j k c (omega arith) l, ap (λ (r : Run). r.last) (get_or_default rs k e c l));
            first_there = λ _. subst (λ z. has (points_in rs) z ≡ true) (let e' : (get_or rs 0 d).first + 0 ≡ (get_or rs 0 d).first = omega arith in e') (point_at 0 0 d some (omega arith));
            last_there = λ _. subst (λ z. has (points_in rs) z ≡ true) (let e' : (get_or rs k e).first + ((get_or rs k e).last - (get_or rs k e).first) ≡ (get_or rs k e).last = omega arith in e') (point_at k ((get_or rs k e).last - (get_or rs k e).first) e l (omega arith));
          }

  module _ (first last : ℕ) (ends : AreRunEnds rs first last) (some : 0 < length rs) where
    none_behind : (z : ℕ) → last < z → has (points_in rs) z ≡ false
    none_behind z l =
        ⊎_elim (λ m. absurd (let u : z < last + 1 = points_before 0 0 (last + 1) rs h (λ k d g. omega (arith, ends.high k d g)) z m in omega arith)) (λ e. e) (cases_Bool (has (points_in rs) z))

    none_before : (z : ℕ) → z < first → has (points_in rs) z ≡ false
    none_before z l =
        ⊎_elim (λ m. absurd (let u : first ≤ z = above 0 0 rs h ends.low z m in omega arith)) (λ e. e) (cases_Bool (has (points_in rs) z))
      where
        above : (low count : ℕ) (rs : List Run) → AreRunsFrom low count rs → ((k : ℕ) (d : Run) → k < length rs → first ≤ (get_or rs k d).first) → (z : ℕ) → has (points_in rs) z ≡ true → first ≤ z
        above low count [] h each z m = absurd (false≢true m)
        above low count (r ∷ rs) h each z m = points_above first count (r ∷ rs) (record { above = each 0 r (omega arith); rises = h.0.rises; below = h.0.below; counted = h.0.counted }, h.1) z m

    words_between : AreWordsOf (points_in rs) (last / 64 + 1 - first / 64)
    words_between =
        let order = ends.order in
        record {
          none = λ e. absurd (omega arith);
          some = λ _. (
            first,
            last,
            record {
              first_there = ends.first_there some;
              last_there = ends.last_there some;
              none_before = none_before;
              none_behind = none_behind;
            },
            omega arith,
          );
        }

    pub words_over : (xs : List ℕ) (n : ℕ) → points_in rs ≡ xs → n ≡ last / 64 + 1 - first / 64 → AreWordsOf xs n
    words_over xs n same e = subst (λ ys. AreWordsOf ys n) same (rw e words_between)

pub no_words : (xs : List ℕ) → xs ≡ [] → AreWordsOf xs 0
no_words xs e = record { none = λ _. e; some = λ l. absurd (omega arith) }

-- ---- a set reaches over so many words and no others

same_ends : (xs : List ℕ) (a b c d : ℕ) → AreEndsOf xs a b → AreEndsOf xs c d → (a ≡ c) × (b ≡ d)
same_ends xs a b c d p q = (ends_agree, lasts_agree)
  where
    ends_agree : a ≡ c
    ends_agree =
        ⊎_elim (λ l. absurd (false≢true (sym (q.none_before a l) ∙ p.first_there))) (λ g. ⊎_elim (λ l. absurd (false≢true (sym (p.none_before c l) ∙ q.first_there))) (λ g'. omega arith) (cases_lt c a)) (cases_lt a c)

    lasts_agree : b ≡ d
    lasts_agree =
        ⊎_elim (λ l. absurd (false≢true (sym (p.none_behind d l) ∙ q.last_there))) (λ g. ⊎_elim (λ l. absurd (false≢true (sym (q.none_behind b l) ∙ p.last_there))) (λ g'. omega arith) (cases_lt d b)) (cases_lt b d)

some_words : (xs : List ℕ) (m n : ℕ) → AreWordsOf xs m → AreWordsOf xs n → 0 < n → m ≡ n
some_words xs m n p q l =
    let there = q.some l in
    ⊎_elim (λ k. let here = p.some k in let same = same_ends xs here.0 here.1 there.0 there.1 here.2 there.2 in omega (arith, here.3, there.3, ap (λ a. a / 64) same.0, ap (λ a. a / 64) same.1)) (λ g. absurd (false≢true (subst (λ ys. has ys there.0 ≡ true) (p.none (omega arith)) there.2.first_there))) (cases_lt 0 m)

pub same_words : (xs : List ℕ) (m n : ℕ) → AreWordsOf xs m → AreWordsOf xs n → m ≡ n
same_words xs m n p q =
    ⊎_elim (λ l. some_words xs m n p q l) (λ g. ⊎_elim (λ l. sym (some_words xs n m q p l)) (λ g'. omega arith) (cases_lt 0 m)) (cases_lt 0 n)

-- ---- the words of a plane

none_has : (xs : List ℕ) → ((z : ℕ) → has xs z ≡ false) → xs ≡ []
none_has [] none = refl
none_has (x ∷ xs) none = absurd (false≢true (sym (none x) ∙ has_head x xs))

pub no_bit : (z : ℕ) → has_point 0 z ≡ false
unfolding has_point
no_bit z = rw (bit_at-zero z) refl

pub plane_words : (s n : ℕ) → IsBelow POINT_LIMIT s → IsSpan s n → AreWordsOf (plane_points s) n
plane_words s n b p = record {
  none = λ e. none_has (plane_points s) (λ z. has_plane s b z ∙ ap (λ t. has_point t z) (p.none e) ∙ no_bit z);
  some = λ l. let there = p.some l in (
    there.0,
    there.1,
    record {
      first_there = has_plane s b there.0 ∙ there.2.first_there;
      last_there = has_plane s b there.1 ∙ there.2.last_there;
      none_before = λ z k. has_plane s b z ∙ there.2.none_before z k;
      none_behind = λ z k. has_plane s b z ∙ there.2.none_behind z k;
    },
    there.3,
  );
}
