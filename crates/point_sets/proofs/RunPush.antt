-- What one more run at the end of a list of runs makes of it.
use Rattle.std.proofs.Common.{◌≡◌, ◌≢◌, ℕ, suc, ◌+◌, ◌-◌, ◌<◌, ◌≤◌, List, [], ◌∷◌, ◌++◌, length, get_or, set, take, drop, All, refl, sym, ap, ◌∙◌, subst, arith, rules, Fits, w32, ⊎_elim, append_assoc, suc}
use Rattle.std.proofs.lemmas.Bool.{cases_lt}
use Rattle.std.proofs.lemmas.List.{append-nil, drop_all, get_or_default, set_split, nil_from_length}
use Rattle.plain_values.specs.Points.{counted_from}
use Rattle.point_sets.specs.Runs.{size_of, points_in, IsRun, AreRuns, IsJoined}
use Rattle.point_sets.specs.declared.runs.Run.{Run}
use Rattle.point_sets.specs.declared.TheConstants.{POINT_LIMIT}
use Rattle.point_sets.proofs.Rising.{counted_from-+}
use Rattle.point_sets.proofs.RunSearch.{total_last}
use Rattle.point_sets.proofs.RunLists.{low_after, count_after, points_in-append, runs_join, run_at, earlier_runs, points_round, element_at, length-points_in, round, total_bound}

-- a run that goes on up to an end, from a point just behind it
abbrev pub grown_to : Run → ℕ → ℕ → Run
grown_to r first end = record { first = r.first; last = end - 1; total = r.total + (end - first) }

-- a run behind so many points
abbrev pub added_to : ℕ → ℕ → ℕ → Run
added_to count first end = record { first = first; last = end - 1; total = count + (end - first) }

low_after-append : (low : ℕ) (xs ys : List Run) → low_after low (xs ++ ys) ≡ low_after (low_after low xs) ys
low_after-append low [] ys = refl
low_after-append low (x ∷ xs) ys = low_after-append (x.last + 2) xs ys

module _ (rs : List Run) (place : ℕ) (d : Run) (h : AreRuns rs) (e : place + 1 ≡ length rs) where
  nothing_after : drop (place + 1) rs ≡ []
  nothing_after = drop_all (place + 1) rs (omega arith)

  low_after_last : low_after 0 rs ≡ (get_or rs place d).last + 2
  low_after_last =
      let l : place < length rs = omega arith in
      ap (low_after 0) (round rs place d h l) ∙ low_after-append 0 (take place rs) (get_or rs place d ∷ drop (place + 1) rs) ∙ ap (low_after ((get_or rs place d).last + 2)) nothing_after

  -- the last run ends below what all points are below
  last_below : (first : ℕ) → All (λ x. x < first) (points_in rs) → (get_or rs place d).last < first
  last_below first above =
      let l : place < length rs = omega arith in
      let r = get_or rs place d in
      let rises = (run_at rs place d h l).rises in
      let at = element_at rs place d h l (r.last - r.first) (omega arith) in
      let under = above _ 0 at.0 in
      omega (arith, at.1, under)

  -- the last run, grown up to an end
  module _ (first end : ℕ) (order : first < end) (below : end ≤ POINT_LIMIT) (joined : (get_or rs place d).last + 1 ≡ first) where
    abbrev grown : Run
    grown = grown_to (get_or rs place d) first end

    grown_list : set rs place grown ≡ take place rs ++ grown ∷ []
    grown_list =
        set_split rs place grown (omega arith) ∙ ap (λ t. take place rs ++ grown ∷ t) (drop_all (suc place) rs (omega arith))

    grown_run : IsRun (low_after 0 (take place rs)) (count_after 0 (take place rs)) grown
    grown_run =
        let r = get_or rs place d in
        let old = run_at rs place d h (omega arith) in
        let above = old.above in
        let rises = old.rises in
        let counted = old.counted in
        record {
          above = above;
          rises = omega arith;
          below = omega arith;
          counted = omega arith;
        }

    pub grown_runs : AreRuns (set rs place grown)
    grown_runs =
        subst AreRuns (sym grown_list) (runs_join 0 0 (take place rs) (grown ∷ []) (earlier_runs rs place d h (omega arith)) (grown_run, tt))

    pub grown_points : points_in (set rs place grown) ≡ points_in rs ++ counted_from first (end - first)
    grown_points =
        let r = get_or rs place d in
        let front = points_in (take place rs) in
        let old = counted_from r.first (size_of r) in
        let rises = (run_at rs place d h (omega arith)).rises in
        let size : size_of grown ≡ size_of r + (end - first) = omega arith in
        let start : r.first + size_of r ≡ first = omega arith in
        let more = counted_from first (end - first) in
        let new : counted_from r.first (size_of grown) ≡ old ++ more = ap (counted_from r.first) size ∙ counted_from-+ r.first (size_of r) (end - first) ∙ ap (λ a. old ++ counted_from a (end - first)) start in
        let whole : points_in rs ≡ front ++ (old ++ []) = points_round rs place d h (omega arith) ∙ ap (λ t. front ++ (old ++ points_in t)) nothing_after in
        ap points_in grown_list ∙ points_in-append (take place rs) (grown ∷ []) ∙ ap (λ l. front ++ (l ++ [])) new ∙ ap (λ l. front ++ l) (append-nil (old ++ more)) ∙ sym (append_assoc front old more)
        ∙ sym (ap (λ l. l ++ more) (whole ∙ ap (λ l. front ++ l) (append-nil old)))

-- one more run, behind a gap
module _ (rs : List Run) (first end : ℕ) (h : AreRuns rs) (order : first < end) (below : end ≤ POINT_LIMIT) (above : All (λ x. x < first) (points_in rs)) where
  abbrev added : Run
  added = added_to (length (points_in rs)) first end

  low_enough : ¬ IsJoined rs first → low_after 0 rs ≤ first
  low_enough apart =
      ⊎_elim (λ some. let e : (length rs - 1) + 1 ≡ length rs = omega arith in let lb = last_below rs (length rs - 1) added h e first above in let low = low_after_last rs (length rs - 1) added h e in let ne : (get_or rs (length rs - 1) added).last + 1 ≢ first = λ q. apart (record {
        some = some;
        ends = λ d. ap (λ (r : Run). r.last + 1) (get_or_default rs (length rs - 1) d added (omega arith)) ∙ q;
      }) in omega arith) (λ none. let e : low_after 0 rs ≡ 0 = ap (low_after 0) (nil_from_length rs (omega arith)) in omega arith) (cases_lt 0 (length rs))

  added_run : ¬ IsJoined rs first → IsRun (low_after 0 rs) (count_after 0 rs) added
  added_run apart = record {
    above = low_enough apart;
    rises = omega arith;
    below = omega arith;
    counted = omega (arith, length-points_in 0 0 rs h);
  }

  pub added_runs : ¬ IsJoined rs first → AreRuns (rs ++ added ∷ [])
  added_runs apart = runs_join 0 0 rs (added ∷ []) h (added_run apart, tt)

  pub added_points : points_in (rs ++ added ∷ []) ≡ points_in rs ++ counted_from first (end - first)
  added_points =
      let size : size_of added ≡ end - first = omega arith in
      points_in-append rs (added ∷ []) ∙ ap (λ l. points_in rs ++ l) (append-nil (counted_from first (size_of added)) ∙ ap (counted_from first) size)

-- how far a count can go
pub total_fits : (rs : List Run) (first end : ℕ) → AreRuns rs → first < end → end ≤ POINT_LIMIT → All (λ x. x < first) (points_in rs) → length (points_in rs) + (end - first) ≤ end
total_fits rs first end h order below above =
    ⊎_elim (λ some. let e : (length rs - 1) + 1 ≡ length rs = omega arith in let d = added_to 0 first end in let lb = last_below rs (length rs - 1) d h e first above in let b = total_bound 0 0 rs (omega arith) h (length rs - 1) d (omega arith) in let t = total_last rs (length rs - 1) d h (omega arith) e in omega arith) (λ none. let e : length (points_in rs) ≡ 0 = ap (λ l. length (points_in l)) (nil_from_length rs (omega arith)) in omega arith) (cases_lt 0 (length rs))

module _ (rs : List Run) (place first end : ℕ) (r : Run) (h : AreRuns rs) (e : place + 1 ≡ length rs) (at : r ≡ get_or rs place r) (order : first < end) (below : end ≤ POINT_LIMIT) (j : IsJoined rs first) where
  joins : (get_or rs place r).last + 1 ≡ first
  joins =
      let p : length rs - 1 ≡ place = omega arith in
      ap (λ k. (get_or rs k r).last + 1) (sym p) ∙ j.ends r

  pub grown_are_runs : AreRuns (set rs place (grown_to r first end))
  grown_are_runs =
      subst (λ q. AreRuns (set rs place (grown_to q first end))) (sym at) (grown_runs rs place r h e first end order below joins)

  pub points_grown : points_in (set rs place (grown_to r first end)) ≡ points_in rs ++ counted_from first (end - first)
  points_grown =
      subst (λ q. points_in (set rs place (grown_to q first end)) ≡ points_in rs ++ counted_from first (end - first)) (sym at) (grown_points rs place r h e first end order below joins)

  pub grown_fits : All (λ x. x < first) (points_in rs) → Fits w32 (r.total + (end - first))
  grown_fits above =
      let total : r.total ≡ length (points_in rs) = ap (λ (q : Run). q.total) at ∙ total_last rs place r h (omega arith) e in
      let most = total_fits rs first end h order below above in
      let within : r.total + (end - first) ≤ 4194304 = omega arith in
      search (rules, within)

pub added_fits : (rs : List Run) (first end n : ℕ) → AreRuns rs → first < end → end ≤ POINT_LIMIT → All (λ x. x < first) (points_in rs) → n ≡ length (points_in rs) → Fits w32 (n + (end - first))
added_fits rs first end n h order below above e =
    let most = total_fits rs first end h order below above in
    let within : n + (end - first) ≤ 4194304 = omega arith in
    search (rules, within)

-- what a list of runs is once one more stretch is added, and what it holds
pub record IsMore (old new : List Run) (first end : ℕ) : Type 0 where
  pub runs : AreRuns new
  pub points : points_in new ≡ points_in old ++ counted_from first (end - first)

pub grown_is_more : (rs : List Run) (place first end : ℕ) (r : Run) → AreRuns rs → place + 1 ≡ length rs → r ≡ get_or rs place r → first < end → end ≤ POINT_LIMIT → IsJoined rs first → IsMore rs (set rs place (grown_to r first end)) first end
grown_is_more rs place first end r h e at order below j = record {
  runs = grown_are_runs rs place first end r h e at order below j;
  points = points_grown rs place first end r h e at order below j;
}

pub added_is_more : (rs : List Run) (first end n : ℕ) → AreRuns rs → first < end → end ≤ POINT_LIMIT → All (λ x. x < first) (points_in rs) → n ≡ length (points_in rs) → ¬ IsJoined rs first → IsMore rs (rs ++ added_to n first end ∷ []) first end
added_is_more rs first end n h order below above e apart =
    subst (λ k. IsMore rs (rs ++ added_to k first end ∷ []) first end) (sym e) (record {
      runs = added_runs rs first end h order below above apart;
      points = added_points rs first end h order below above;
    })
