-- From runs to a plane and back.
use Rattle.std.proofs.Common.{◌≡◌, ℕ, ◌+◌, ◌-◌, ◌<◌, ◌≤◌, Bool, true, false, ◌&&◌, ◌||◌, leb, ltb, List, [], ◌∷◌, ◌++◌, length, get_or, take, All, refl, sym, ap, ◌∙◌, arith, ⊎_elim}
use Rattle.std.proofs.lemmas.Bool.{cases_lt, and_parts, ltb-true, false≢true, lt-ltb}
use Rattle.std.proofs.lemmas.Bool.Decides.{nat_tests}
use Rattle.std.proofs.lemmas.List.Elements.{Contains-get_or}
use Rattle.std.proofs.lemmas.List.{take_more}
use Rattle.plain_values.specs.Points.{IsPoints, counted_from, has}
use Rattle.bit_planes.specs.Planes.{IsBelow, IsStretch, has_point}
use Rattle.point_sets.specs.Forms.{plane_points}
use Rattle.point_sets.specs.Runs.{AreRuns, points_in, size_of}
use Rattle.point_sets.specs.Stretches.{IsStretchFrom}
use Rattle.point_sets.specs.declared.runs.Run.{Run}
use Rattle.point_sets.specs.declared.TheConstants.{POINT_LIMIT}
use Rattle.point_sets.proofs.PlaneLists.{has_plane, plane_points_are}
use Rattle.point_sets.proofs.Rising.{has-append, has-counted_from, has-from_Contains}
use Rattle.point_sets.proofs.RunLists.{has-run, points_in-append, run_at}

-- ---- a plane that is built of runs

pub one_more_run : (rs : List Run) (k : ℕ) (d : Run) → AreRuns rs → k < length rs → (z : ℕ) → has (points_in (take (k + 1) rs)) z ≡ (has (points_in (take k rs)) z || (leb (get_or rs k d).first z && ltb z ((get_or rs k d).last + 1)))
one_more_run rs k d h l z =
    let r = get_or rs k d in
    ap (λ xs. has (points_in xs) z) (take_more rs k d l) ∙ ap (λ xs. has xs z) (points_in-append (take k rs) (r ∷ [])) ∙ has-append (points_in (take k rs)) (points_in (r ∷ [])) z ∙ ap (λ b. has (points_in (take k rs)) z || b) (has-append (counted_from r.first (size_of r)) [] z ∙ or_none (has (counted_from r.first (size_of r)) z) ∙ has-run r z (run_at rs k d h l).rises ∙ ap (λ b. leb r.first z && b) (behind z r.last))
  where
    or_none : (b : Bool) → (b || false) ≡ b
    or_none true = refl
    or_none false = refl

    behind : (z y : ℕ) → leb z y ≡ ltb z (y + 1)
    behind z y = grind (arith, nat_tests)

-- ---- the runs of a plane, stretch by stretch

-- what is made of a plane up to a point
pub record IsMadeTo (s : ℕ) (out : List ℕ) (point : ℕ) : Type 0 where
  pub points : IsPoints POINT_LIMIT out
  pub members : (z : ℕ) → has out z ≡ (ltb z point && has_point s z)

module _ (s : ℕ) (b : IsBelow POINT_LIMIT s) where
  pub end_limit : (point start end : ℕ) → IsStretch s point start end → end ≤ POINT_LIMIT
  end_limit point start end st =
      let some = st.some in
      ⊎_elim (λ l. absurd (false≢true (sym (b (end - 1) (omega arith)) ∙ st.full (end - 1) (omega arith) (omega arith)))) (λ g. g) (cases_lt POINT_LIMIT end)

  pub stretch_of_plane : (point start end : ℕ) → IsStretch s point start end → IsStretchFrom (plane_points s) point start end
  stretch_of_plane point start end st = record {
    ahead = st.ahead;
    some = st.some;
    gap = λ z l g. has_plane s b z ∙ st.gap z l g;
    full = λ z l g. has_plane s b z ∙ st.full z l g;
    ends = has_plane s b end ∙ st.ends;
  }

  pub made_all : (out : List ℕ) (point : ℕ) → IsMadeTo s out point → ((z : ℕ) → point ≤ z → has_point s z ≡ false) → out ≡ plane_points s
  made_all out point m none =
      sym (plane_points_are s out m.points (λ z. ⊎_elim (λ l. sym (m.members z ∙ ap (λ t. t && has_point s z) (lt-ltb z point l))) (λ g. none z g ∙ sym (m.members z ∙ past z g)) (cases_lt z point)))
    where
      past : (z : ℕ) → point ≤ z → (ltb z point && has_point s z) ≡ false
      past z g = let e = none z g in grind (arith, nat_tests)

pub made_before : (s : ℕ) (out : List ℕ) (point start : ℕ) → IsMadeTo s out point → point ≤ start → All (λ x. x < start) out
made_before s out point start m l k d g =
    let e = has-from_Contains out _ (Contains-get_or out k d g) in
    let u = ltb-true (get_or out k d) point (and_parts (ltb (get_or out k d) point) _ (sym (m.members _) ∙ e)).0 in
    omega (arith, u)

pub made_more : (s : ℕ) (out more : List ℕ) (point start end : ℕ) → IsMadeTo s out point → IsStretch s point start end → more ≡ out ++ counted_from start (end - start) → IsPoints POINT_LIMIT more → IsMadeTo s more end
made_more s out more point start end m st e points = record { points = points; members = members }
  where
    tests : (a c : Bool) (z : ℕ) → point ≤ start → start < end → (z < point → c ≡ c) → (point ≤ z → z < start → c ≡ false) → (start ≤ z → z < end → c ≡ true) → a ≡ (ltb z point && c) → (a || (leb start z && ltb z (start + (end - start)))) ≡ (ltb z end && c)
    tests a c z ahead some before gap full told = grind (arith, nat_tests)

    members : (z : ℕ) → has more z ≡ (ltb z end && has_point s z)
    members z =
        ap (λ xs. has xs z) e ∙ has-append out (counted_from start (end - start)) z ∙ ap (λ t. has out z || t) (has-counted_from start (end - start) z) ∙ tests (has out z) (has_point s z) z st.ahead st.some (λ _. refl) (st.gap z) (st.full z) (m.members z)

pub nothing_made : (s : ℕ) (out : List ℕ) → out ≡ [] → IsPoints POINT_LIMIT out → IsMadeTo s out 0
nothing_made s out e p = record { points = p; members = λ z. ap (λ xs. has xs z) e ∙ sym (none z (has_point s z)) }
  where
    none : (z : ℕ) (b : Bool) → (ltb z 0 && b) ≡ false
    none z b = grind (arith, nat_tests)
