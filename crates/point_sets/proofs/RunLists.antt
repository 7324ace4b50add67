-- Lists of runs: their points, and the points round a place in them.
use Rattle.std.proofs.Common.{◌≡◌, ℕ, zero, suc, ◌+◌, ◌<◌, ◌≤◌, true, false, ◌&&◌, ◌||◌, leb, List, [], ◌∷◌, ◌++◌, length, get_or, take, drop, All, refl, sym, ap, ◌∙◌, subst, arith, ⊎_elim, append_assoc, length-append}
use Rattle.std.proofs.lemmas.Bool.{cases_Bool, false≢true, or_cases}
use Rattle.std.proofs.lemmas.Bool.Decides.{nat_tests}
use Rattle.std.proofs.lemmas.List.{drop_more, take_all, get_or-append-add, get_or_append_left}
use Rattle.std.proofs.lemmas.List.{take-append-drop}
use Rattle.std.proofs.lemmas.List.Elements.{All-head, All-tail, All-nil, All-cons, Contains-get_or}
use Rattle.std.specs.List.Sorted.{IsStrictlyIncreasing}
use Rattle.plain_values.specs.Points.{has, counted_from, IsPoints}
use Rattle.point_sets.specs.Runs.{size_of, points_in, IsRun, AreRunsFrom, AreRuns, IsFirstTo}
use Rattle.point_sets.specs.declared.runs.Run.{Run}
use Rattle.point_sets.specs.declared.TheConstants.{POINT_LIMIT}
use Rattle.point_sets.proofs.Rising.{Each, has-append, has-counted_from, rising-append, rising-counted_from, has-from_Contains, length-counted_from, get_or-counted_from, absent_below}

-- where the next run may begin, and how many points there are, after runs
abbrev pub low_after : ℕ → List Run → ℕ
low_after low [] = low
low_after low (r ∷ rs) = low_after (r.last + 2) rs

abbrev pub count_after : ℕ → List Run → ℕ
count_after count [] = count
count_after count (r ∷ rs) = count_after r.total rs

pub points_in-append : (xs ys : List Run) → points_in (xs ++ ys) ≡ points_in xs ++ points_in ys
points_in-append [] ys = refl
points_in-append (x ∷ xs) ys =
    ap (λ l. counted_from x.first (size_of x) ++ l) (points_in-append xs ys) ∙ sym (append_assoc (counted_from x.first (size_of x)) (points_in xs) (points_in ys))

pub runs_split : (low count : ℕ) (xs ys : List Run) → AreRunsFrom low count (xs ++ ys) → AreRunsFrom low count xs × AreRunsFrom (low_after low xs) (count_after count xs) ys
runs_split low count [] ys h = (tt, h)
runs_split low count (x ∷ xs) ys h =
    let rest = runs_split (x.last + 2) x.total xs ys h.1 in
    ((h.0, rest.0), rest.1)

pub runs_join : (low count : ℕ) (xs ys : List Run) → AreRunsFrom low count xs → AreRunsFrom (low_after low xs) (count_after count xs) ys → AreRunsFrom low count (xs ++ ys)
runs_join low count [] ys h g = g
runs_join low count (x ∷ xs) ys h g = (h.0, runs_join (x.last + 2) x.total xs ys h.1 g)

-- ---- the points of runs

pub has-run : (r : Run) (z : ℕ) → r.first ≤ r.last → has (counted_from r.first (size_of r)) z ≡ (leb r.first z && leb z r.last)
has-run r z rises = let h = has-counted_from r.first (size_of r) z in grind (arith, nat_tests)

in_run : (r : Run) (z : ℕ) → r.first ≤ r.last → has (counted_from r.first (size_of r)) z ≡ true → (r.first ≤ z) × (z ≤ r.last)
in_run r z rises m = let h = has-run r z rises in grind (arith, nat_tests)

pub points_above : (low count : ℕ) (rs : List Run) → AreRunsFrom low count rs → Each (λ z. low ≤ z) (points_in rs)
points_above low count [] h z m = absurd (false≢true m)
points_above low count (r ∷ rs) h z m =
    let above : low ≤ r.first = h.0.above in
    let rises : r.first ≤ r.last = h.0.rises in
    ⊎_elim (λ e. let at = in_run r z h.0.rises e in omega (arith, at.0)) (λ e. let far : r.last + 2 ≤ z = points_above (r.last + 2) r.total rs h.1 z e in omega arith) (or_cases (has (counted_from r.first (size_of r)) z) (has (points_in rs) z) (sym (has-append (counted_from r.first (size_of r)) (points_in rs) z) ∙ m))

-- a point that every run ends before is none of theirs
pub points_before : (low count bound : ℕ) (rs : List Run) → AreRunsFrom low count rs → All (λ r. r.last < bound) rs → Each (λ z. z < bound) (points_in rs)
points_before low count bound [] h ends z m = absurd (false≢true m)
points_before low count bound (r ∷ rs) h ends z m =
    let end : r.last < bound = All-head (λ r. r.last < bound) r rs ends in
    ⊎_elim (λ e. let at = in_run r z h.0.rises e in omega (arith, at.1)) (points_before (r.last + 2) r.total bound rs h.1 (All-tail (λ r. r.last < bound) r rs ends) z) (or_cases (has (counted_from r.first (size_of r)) z) (has (points_in rs) z) (sym (has-append (counted_from r.first (size_of r)) (points_in rs) z) ∙ m))

pub ends_below : (low count : ℕ) (rs : List Run) → AreRunsFrom low count rs → All (λ r. r.last < POINT_LIMIT) rs
ends_below low count [] h = All-nil (λ r. r.last < POINT_LIMIT)
ends_below low count (r ∷ rs) h =
    All-cons (λ r. r.last < POINT_LIMIT) r rs h.0.below (ends_below (r.last + 2) r.total rs h.1)

pub rising-points_in : (low count : ℕ) (rs : List Run) → AreRunsFrom low count rs → IsStrictlyIncreasing (points_in rs)
rising-points_in low count [] h = λ k l. absurd (omega arith)
rising-points_in low count (r ∷ rs) h =
    rising-append (r.last + 2) (counted_from r.first (size_of r)) (points_in rs) (λ z m. let at = in_run r z h.0.rises m in omega (arith, at.1)) (points_above (r.last + 2) r.total rs h.1) (rising-counted_from r.first (size_of r)) (rising-points_in (r.last + 2) r.total rs h.1)

pub points_of_runs : (rs : List Run) → AreRuns rs → IsPoints POINT_LIMIT (points_in rs)
points_of_runs rs h = record {
  rising = rising-points_in 0 0 rs h;
  below = λ k d l. points_before 0 0 POINT_LIMIT rs h (ends_below 0 0 rs h) _ (has-from_Contains (points_in rs) _ (Contains-get_or (points_in rs) k d l));
}

pub length-points_in : (low count : ℕ) (rs : List Run) → AreRunsFrom low count rs → count + length (points_in rs) ≡ count_after count rs
length-points_in low count [] h = omega arith
length-points_in low count (r ∷ rs) h =
    let total : r.total ≡ count + size_of r = h.0.counted in
    omega (arith, length-append (counted_from r.first (size_of r)) (points_in rs), length-counted_from r.first (size_of r), length-points_in (r.last + 2) r.total rs h.1)

-- ---- round a place

module _ (rs : List Run) (place : ℕ) (d : Run) (h : AreRuns rs) (l : place < length rs) where
  pub round : rs ≡ take place rs ++ get_or rs place d ∷ drop (place + 1) rs
  round =
      sym (take-append-drop place rs) ∙ ap (λ t. take place rs ++ t) (drop_more rs place d l)

  parts : AreRuns (take place rs) × AreRunsFrom (low_after 0 (take place rs)) (count_after 0 (take place rs)) (get_or rs place d ∷ drop (place + 1) rs)
  parts = runs_split 0 0 (take place rs) (get_or rs place d ∷ drop (place + 1) rs) (subst AreRuns round h)

  pub earlier_runs : AreRuns (take place rs)
  earlier_runs = parts.0

  pub run_at : IsRun (low_after 0 (take place rs)) (count_after 0 (take place rs)) (get_or rs place d)
  run_at = parts.1.0

  pub later_runs : AreRunsFrom ((get_or rs place d).last + 2) (get_or rs place d).total (drop (place + 1) rs)
  later_runs = parts.1.1

  pub points_round : points_in rs ≡ points_in (take place rs) ++ (counted_from (get_or rs place d).first (size_of (get_or rs place d)) ++ points_in (drop (place + 1) rs))
  points_round =
      ap points_in round ∙ points_in-append (take place rs) (get_or rs place d ∷ drop (place + 1) rs)

  has_round : (z : ℕ) → has (points_in rs) z ≡ (has (points_in (take place rs)) z || ((leb (get_or rs place d).first z && leb z (get_or rs place d).last) || has (points_in (drop (place + 1) rs)) z))
  has_round z =
      let r = get_or rs place d in
      let mid = counted_from r.first (size_of r) in
      let back = points_in (drop (place + 1) rs) in
      ap (λ xs. has xs z) points_round ∙ has-append (points_in (take place rs)) (mid ++ back) z ∙ ap (λ b. has (points_in (take place rs)) z || b) (has-append mid back z ∙ ap (λ b. b || has back z) (has-run r z run_at.rises))

  -- the points up to the end of the run are counted
  pub total_at : (get_or rs place d).total ≡ length (points_in (take place rs)) + size_of (get_or rs place d)
  total_at =
      run_at.counted ∙ ap (λ n. n + size_of (get_or rs place d)) (sym (length-points_in 0 0 (take place rs) earlier_runs) ∙ omega arith)

  pub element_at : (j : ℕ) → j < size_of (get_or rs place d) → (length (points_in (take place rs)) + j < length (points_in rs)) × (get_or (points_in rs) (length (points_in (take place rs)) + j) 0 ≡ (get_or rs place d).first + j)
  element_at j m =
      let r = get_or rs place d in
      let front = points_in (take place rs) in
      let mid = counted_from r.first (size_of r) in
      let back = points_in (drop (place + 1) rs) in
      (omega (arith, ap length points_round, length-append front (mid ++ back), length-append mid back, length-counted_from r.first (size_of r)), ap (λ xs. get_or xs (length front + j) 0) points_round ∙ get_or-append-add front (mid ++ back) j 0 ∙ get_or_append_left mid back 0 j (omega (arith, length-counted_from r.first (size_of r))) ∙ get_or-counted_from r.first (size_of r) j 0 m)

  module _ (point : ℕ) (f : IsFirstTo rs place point) (z : ℕ) (from : point ≤ z) where
    not_earlier : has (points_in (take place rs)) z ≡ false
    not_earlier =
        ⊎_elim (λ m. let under : z < point = points_before 0 0 point (take place rs) earlier_runs f.passed z m in absurd (omega arith)) (λ e. e) (cases_Bool (has (points_in (take place rs)) z))

    -- up to the run's first point there is none
    pub none_before_run : z < (get_or rs place d).first → has (points_in rs) z ≡ false
    none_before_run under =
        let r = get_or rs place d in
        let rises : r.first ≤ r.last = run_at.rises in
        let e = has_round z in
        let a = not_earlier in
        let b : has (points_in (drop (place + 1) rs)) z ≡ false = absent_below (r.last + 2) (points_in (drop (place + 1) rs)) (points_above (r.last + 2) r.total (drop (place + 1) rs) later_runs) z (omega arith) in
        grind (arith, nat_tests)

    -- from there to its last all are there
    pub all_in_run : (get_or rs place d).first ≤ z → z ≤ (get_or rs place d).last → has (points_in rs) z ≡ true
    all_in_run low high =
        let e = has_round z in
        let a = not_earlier in
        grind (arith, nat_tests)

pub none_past_runs : (rs : List Run) (place point : ℕ) → AreRuns rs → IsFirstTo rs place point → length rs ≤ place → (z : ℕ) → point ≤ z → has (points_in rs) z ≡ false
none_past_runs rs place point h f l z from =
    ⊎_elim (λ m. let under : z < point = points_before 0 0 point rs h (subst (All (λ r. r.last < point)) (take_all place rs l) f.passed) z m in absurd (omega arith)) (λ e. e) (cases_Bool (has (points_in rs) z))

-- ---- neighbours, and what a run counts

pub gap_after : (low count : ℕ) (rs : List Run) → AreRunsFrom low count rs → (k : ℕ) (d : Run) → suc k < length rs → ((get_or rs k d).last + 1 < (get_or rs (suc k) d).first) × ((get_or rs k d).total ≤ (get_or rs (suc k) d).total)
gap_after low count [] h k d l = absurd (omega arith)
gap_after low count (r ∷ []) h k d l = absurd (omega arith)
gap_after low count (r ∷ s ∷ rs) h zero d l =
    let above : r.last + 2 ≤ s.first = h.1.0.above in
    let counted : s.total ≡ r.total + size_of s = h.1.0.counted in
    (omega arith, omega arith)
gap_after low count (r ∷ s ∷ rs) h (suc k) d l =
    gap_after (r.last + 2) r.total (s ∷ rs) h.1 k d (omega arith)

head_bound : (low count : ℕ) (r : Run) → count ≤ low → IsRun low count r → r.total ≤ r.last + 1
head_bound low count r c h = omega arith

pub total_bound : (low count : ℕ) (rs : List Run) → count ≤ low → AreRunsFrom low count rs → (k : ℕ) (d : Run) → k < length rs → (get_or rs k d).total ≤ (get_or rs k d).last + 1
total_bound low count [] c h k d l = absurd (omega arith)
total_bound low count (r ∷ rs) c h zero d l = head_bound low count r c h.0
total_bound low count (r ∷ rs) c h (suc k) d l =
    total_bound (r.last + 2) r.total rs (omega (arith, head_bound low count r c h.0)) h.1 k d (omega arith)

count_bounded : (many count : ℕ) (rs : List Run) → count ≤ many → All (λ r. r.total ≤ many) rs → count_after count rs ≤ many
count_bounded many count [] c h = c
count_bounded many count (r ∷ rs) c h =
    count_bounded many r.total rs (All-head (λ r. r.total ≤ many) r rs h) (All-tail (λ r. r.total ≤ many) r rs h)

-- runs that all count at most so many hold at most so many points
pub few_points : (many : ℕ) (rs : List Run) → AreRuns rs → All (λ r. r.total ≤ many) rs → length (points_in rs) ≤ many
few_points many rs h a =
    omega (arith, length-points_in 0 0 rs h, count_bounded many 0 rs (omega arith) a)
