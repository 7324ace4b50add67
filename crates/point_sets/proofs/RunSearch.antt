-- What a search in a list of runs finds.
use Rattle.std.proofs.Common.{Fits, w32, slice_get, length-append, ◌≡◌, ℕ, suc, ◌+◌, ◌-◌, ◌<◌, ◌≤◌, true, false, eqb, ltb, leb, List, [], ◌++◌, length, get_or, take, drop, All, Some, None, sym, ap, ◌∙◌, subst, arith, rules, ⊎_elim, get_or-take, add-one}
use Rattle.std.proofs.lemmas.Bool.{ltb-true, ltb-false, leb-true, leb-false, cases_Bool}
use Rattle.std.proofs.lemmas.List.{take_all, get_or_default, length-take-le, drop_all}
use Rattle.std.proofs.lemmas.Option.{slice_get-get_or, slice_get_past}
use Rattle.std.proofs.lemmas.List.Elements.{All-more, All-weaker}
use Rattle.std.proofs.lemmas.List.Sorted.{IsNonDecreasingBy-from_all_adjacent, IsPartitionedBy-ltb, IsPartitionedBy-leb}
use Rattle.std.specs.List.{AllWithin, position}
use Rattle.std.specs.List.Sorted.{IsNonDecreasingBy, IsPartitionedBy, IsPartitionPoint}
use Rattle.plain_values.specs.Points.{has, counted_from}
use Rattle.point_sets.specs.Runs.{size_of, points_in, AreRuns, IsFirstTo, IsFirstWithMore}
use Rattle.point_sets.specs.Sweeps.{AllOrNone, IsNear}
use Rattle.point_sets.specs.declared.runs.Run.{Run}
use Rattle.point_sets.specs.declared.TheConstants.{POINT_LIMIT}
use Rattle.point_sets.proofs.Places.{position_is}
use Rattle.point_sets.proofs.RunLists.{gap_after, run_at, none_before_run, all_in_run, none_past_runs, few_points, element_at, total_at, total_bound, points_round, earlier_runs, rising-points_in}
use Rattle.point_sets.proofs.Rising.{length-counted_from, position_absent, position_at}

module _ (rs : List Run) (h : AreRuns rs) where
  pub lasts_rise : IsNonDecreasingBy (λ (r : Run). r.last) rs
  lasts_rise =
      IsNonDecreasingBy-from_all_adjacent (λ (r : Run). r.last) rs (λ k d l. let l' : suc k < length rs = omega arith in let g = gap_after 0 0 rs h k d l' in let rises = (run_at rs (suc k) d h l').rises in rw add-one (omega (arith, g.0, rises)))

  totals_rise : IsNonDecreasingBy (λ (r : Run). r.total) rs
  totals_rise =
      IsNonDecreasingBy-from_all_adjacent (λ (r : Run). r.total) rs (λ k d l. let l' : suc k < length rs = omega arith in rw add-one (gap_after 0 0 rs h k d l').1)

  pub parted_by_last : (point : ℕ) → IsPartitionedBy (λ (r : Run). ltb r.last point) rs
  parted_by_last point = IsPartitionedBy-ltb (λ (r : Run). r.last) rs point lasts_rise

  pub parted_by_total : (many : ℕ) → IsPartitionedBy (λ (r : Run). leb r.total many) rs
  parted_by_total many = IsPartitionedBy-leb (λ (r : Run). r.total) rs many totals_rise

front : (P : Run → Type 0) (rs : List Run) (place : ℕ) → place ≤ length rs → AllWithin P rs 0 place → All P (take place rs)
front P rs place l a k d m =
    let below : k < place = omega (arith, length-take-le place rs l) in
    subst P (sym (get_or-take place rs k d below)) (a k d (omega arith) below)

pub first_from_parted : (rs : List Run) (place point : ℕ) → place ≤ length rs → IsPartitionPoint (λ (r : Run). ltb r.last point ≡ true) (λ (r : Run). ltb r.last point ≡ false) rs place → IsFirstTo rs place point
first_from_parted rs place point l p = record {
  inside = l;
  passed = All-weaker (λ (r : Run). ltb r.last point ≡ true) (λ (r : Run). r.last < point) (λ r e. ltb-true r.last point e) (take place rs) (front (λ (r : Run). ltb r.last point ≡ true) rs place l p.0);
  reaches = λ d m. ltb-false _ point (p.1 place d (omega arith) m);
}

pub more_from_parted : (rs : List Run) (place many : ℕ) → place ≤ length rs → IsPartitionPoint (λ (r : Run). leb r.total many ≡ true) (λ (r : Run). leb r.total many ≡ false) rs place → IsFirstWithMore rs place many
more_from_parted rs place many l p = record {
  inside = l;
  passed = All-weaker (λ (r : Run). leb r.total many ≡ true) (λ (r : Run). r.total ≤ many) (λ r e. leb-true r.total many e) (take place rs) (front (λ (r : Run). leb r.total many ≡ true) rs place l p.0);
  reaches = λ d m. leb-false _ many (p.1 place d (omega arith) m);
}

-- the next run is the first to a point just behind a run
pub next_is_first : (rs : List Run) (place point : ℕ) (d : Run) → AreRuns rs → place < length rs → All (λ (r : Run). r.last < point) (take place rs) → (get_or rs place d).last < point → IsNear rs place point → IsFirstTo rs (place + 1) point
next_is_first rs place point d h l passed end near = record {
  inside = omega arith;
  passed = All-more (λ (r : Run). r.last < point) rs place d l passed end;
  reaches = λ e m. let m' : suc place < length rs = omega arith in let g = gap_after 0 0 rs h place e m' in let rises = (run_at rs (suc place) e h m').rises in let n = near e l in rw add-one (omega (arith, g.0, rises, n));
}

-- ---- a stretch

module _ (rs : List Run) (place point : ℕ) (d : Run) (h : AreRuns rs) (f : IsFirstTo rs place point) where
  pub even_past_runs : length rs ≤ place → (end : ℕ) → AllOrNone (points_in rs) point end false
  even_past_runs l end z from under = none_past_runs rs place point h f l z from

  pub even_before_run : place < length rs → AllOrNone (points_in rs) point (get_or rs place d).first false
  even_before_run l z from under = none_before_run rs place d h l point f z from under

  pub even_in_run : place < length rs → (get_or rs place d).first ≤ point → AllOrNone (points_in rs) point ((get_or rs place d).last + 1) true
  even_in_run l low z from under =
      all_in_run rs place d h l point f z from (omega arith) (omega arith)

  pub near_first : place < length rs → IsNear rs place (get_or rs place d).first
  near_first l e m =
      let rises = (run_at rs place e h m).rises in
      rw (get_or_default rs place d e l) (omega (arith, rises))

  -- ---- whether a point is there, and where

  pub has_past_runs : length rs ≤ place → has (points_in rs) point ≡ false
  has_past_runs l = none_past_runs rs place point h f l point (omega arith)

  pub has_at_run : place < length rs → has (points_in rs) point ≡ leb (get_or rs place d).first point
  has_at_run l =
      let reaches = f.reaches d l in
      ⊎_elim (λ e. all_in_run rs place d h l point f point (omega arith) (leb-true _ point e) reaches ∙ sym e) (λ e. none_before_run rs place d h l point f point (omega arith) (leb-false _ point e) ∙ sym e) (cases_Bool (leb (get_or rs place d).first point))

module _ (rs : List Run) (place : ℕ) (d : Run) (h : AreRuns rs) (l : place < length rs) where
  pub first_below : (get_or rs place d).first ≤ POINT_LIMIT
  first_below =
      let rises = (run_at rs place d h l).rises in
      let below = (run_at rs place d h l).below in
      omega arith

  pub end_below : (get_or rs place d).last + 1 ≤ POINT_LIMIT
  end_below = let below = (run_at rs place d h l).below in omega arith

  pub end_fits : Fits w32 ((get_or rs place d).last + 1)
  end_fits = let below = end_below in search (rules, below)

  -- the last run counts all points
  pub total_last : place + 1 ≡ length rs → (get_or rs place d).total ≡ length (points_in rs)
  total_last e =
      let r = get_or rs place d in
      let front = points_in (take place rs) in
      let mid = counted_from r.first (size_of r) in
      let back = points_in (drop (place + 1) rs) in
      let none : back ≡ [] = ap points_in (drop_all (place + 1) rs (omega arith)) in
      omega (arith, total_at rs place d h l, ap length (points_round rs place d h l), length-append front (mid ++ back), length-append mid back, length-counted_from r.first (size_of r), ap length none)

  -- ---- the point at a place

  module _ (many : ℕ) (f : IsFirstWithMore rs place many) where
    before_many : length (points_in (take place rs)) ≤ many
    before_many = few_points many (take place rs) (earlier_runs rs place d h l) f.passed

    pub far_enough : (get_or rs place d).total - many ≤ (get_or rs place d).last + 1
    far_enough = omega (arith, total_bound 0 0 rs (omega arith) h place d l)

    pub element_found : slice_get (points_in rs) many ≡ Some ((get_or rs place d).last + 1 - ((get_or rs place d).total - many))
    element_found =
        let r = get_or rs place d in
        let before = length (points_in (take place rs)) in
        let rises = (run_at rs place d h l).rises in
        let reach = f.reaches d l in
        let total = total_at rs place d h l in
        let start = before_many in
        let j : before + (many - before) ≡ many = omega arith in
        let at = element_at rs place d h l (many - before) (omega arith) in
        let here : many < length (points_in rs) = omega (arith, at.0) in
        slice_get-get_or (points_in rs) many 0 here ∙ ap Some (ap (λ k. get_or (points_in rs) k 0) (sym j) ∙ at.1 ∙ omega arith)

pub no_element : (rs : List Run) (place many : ℕ) → AreRuns rs → IsFirstWithMore rs place many → length rs ≤ place → slice_get (points_in rs) many ≡ None
no_element rs place many h f l =
    slice_get_past (points_in rs) many (few_points many rs h (subst (All (λ (r : Run). r.total ≤ many)) (take_all place rs l) f.passed))

-- ---- the place of a point

module _ (rs : List Run) (place point : ℕ) (d : Run) (h : AreRuns rs) (f : IsFirstTo rs place point) where
  pub no_place_past : length rs ≤ place → position (λ y. eqb y point) (points_in rs) ≡ None
  no_place_past l =
      position_is (points_in rs) point ∙ position_absent point 0 (points_in rs) (has_past_runs rs place point d h f l)

  module _ (l : place < length rs) where
    pub no_place_before : point < (get_or rs place d).first → position (λ y. eqb y point) (points_in rs) ≡ None
    no_place_before under =
        position_is (points_in rs) point ∙ position_absent point 0 (points_in rs) (none_before_run rs place d h l point f point (omega arith) under)

    pub place_enough : (get_or rs place d).first ≤ point → (get_or rs place d).last + 1 - point ≤ (get_or rs place d).total
    place_enough low = omega (arith, total_at rs place d h l)

    pub place_found : (get_or rs place d).first ≤ point → position (λ y. eqb y point) (points_in rs) ≡ Some ((get_or rs place d).total - ((get_or rs place d).last + 1 - point))
    place_found low =
        let r = get_or rs place d in
        let reaches = f.reaches d l in
        let total = total_at rs place d h l in
        let at = element_at rs place d h l (point - r.first) (omega arith) in
        position_is (points_in rs) point ∙ position_at 0 (points_in rs) (length (points_in (take place rs)) + (point - r.first)) point (rising-points_in 0 0 rs h) at.0 (at.1 ∙ omega arith) ∙ ap Some (omega arith)
