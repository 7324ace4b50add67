-- The stretch that a run gives from a point on.
use Rattle.std.proofs.Common.{◌≡◌, ℕ, suc, ◌+◌, ◌<◌, false, max, List, length, get_or, take}
use Rattle.std.proofs.Common.{arith, subst, ⊎_elim}
use Rattle.point_sets.specs.Runs.{AreRuns, IsFirstTo, points_in}
use Rattle.point_sets.specs.Stretches.{IsStretchFrom}
use Rattle.point_sets.specs.declared.runs.Run.{Run}
use Rattle.point_sets.proofs.RunLists.{gap_after, run_at, none_before_run, none_past_runs}
use Rattle.point_sets.proofs.RunLists.{all_in_run}
use Rattle.point_sets.proofs.RunSearch.{next_is_first}
use Rattle.plain_values.specs.Points.{has}
use Rattle.std.proofs.lemmas.Bool.{cases_lt}
use Rattle.std.proofs.lemmas.List.{get_or_default}
use Rattle.std.proofs.lemmas.List.Elements.{All-weaker}

-- there is no point just behind a run
none_behind_run : (rs : List Run) (place point : ℕ) (d : Run) → AreRuns rs →
    IsFirstTo rs place point → place < length rs →
    has (points_in rs) ((get_or rs place d).last + 1) ≡ false
none_behind_run rs place point d h f l =
    let end = (get_or rs place d).last + 1 in
    let reaches = f.reaches d l in
    let passed = All-weaker (λ (r : Run). r.last < point) (λ (r : Run). r.last < end)
    (λ r under. omega arith) (take place rs) f.passed in
    let next : IsFirstTo rs (place + 1) end = next_is_first rs place end d h l passed (omega arith)
    (λ e m. rw (get_or_default rs place e d l) (omega arith)) in
    ⊎_elim (λ m. none_before_run rs (place + 1) d h m end next end (omega arith) (gap m))
    (λ m. none_past_runs rs (place + 1) end h next m end (omega arith))
    (cases_lt (place + 1) (length rs))
  where
    gap : place + 1 < length rs → (get_or rs place d).last + 1 < (get_or rs (place + 1) d).first
    gap m =
        let m' : suc place < length rs = omega arith in
        let g = gap_after 0 0 rs h place d m' in
        subst (λ k. (get_or rs place d).last + 1 < (get_or rs k d).first)
        (let e : suc place ≡ place + 1 = omega arith in e) (omega (arith, g.0))

pub stretch_of_run : (rs : List Run) (place point start : ℕ) (d : Run) → AreRuns rs →
    IsFirstTo rs place point → place < length rs → start ≡ max (get_or rs place d).first point →
    IsStretchFrom (points_in rs) point start ((get_or rs place d).last + 1)
stretch_of_run rs place point start d h f l e =
    let rises = (run_at rs place d h l).rises in
    let reaches = f.reaches d l in
    record {
      ahead = omega arith;
      some = omega arith;
      gap = λ z from under. none_before_run rs place d h l point f z from (omega arith);
      full = λ z from under. all_in_run rs place d h l point f z (omega arith) (omega arith)
          (omega arith);
      ends = none_behind_run rs place point d h f l;
    }

pub stretch_of_set : (xs : List ℕ) (rs : List Run) (place point start : ℕ) (d : Run) → AreRuns rs →
    points_in rs ≡ xs → IsFirstTo rs place point → place < length rs →
    start ≡ max (get_or rs place d).first point →
    IsStretchFrom xs point start ((get_or rs place d).last + 1)
stretch_of_set xs rs place point start d h same f l e =
    subst (λ (ys : List ℕ). IsStretchFrom ys point start ((get_or rs place d).last + 1)) same
    (stretch_of_run rs place point start d h f l e)
