-- A need whose field is needed in one mode alone.
use Rattle.std.proofs.Common.{◌≡◌, ℕ, suc, zero, ◌<◌, true, not, ◌⊎◌}
use Rattle.std.proofs.Common.{inl, inr, ⊎_elim, Option, Some, None}
use Rattle.std.proofs.Common.{List, [], ◌∷◌, length, get_or, refl, sym, ap, ◌∙◌, subst, arith}
use Rattle.std.proofs.lemmas.Bool.{cases_Bool, false≢true, or_left, or_cases, and_parts}
use Rattle.std.proofs.lemmas.Bool.{and_from, not-true, both_ways}
use Rattle.std.specs.List.{list_all}
use Rattle.lane_kernels.specs.Modes.{joined}
use Rattle.lane_kernels.specs.declared.numbers.Mode.{Mode}
use Rattle.lane_kernels.specs.declared.numbers.Mode.TheVariants.{Write}
use Rattle.plain_values.specs.Points.{has}
use Rattle.point_sets.proofs.Rising.{within_each}
use Rattle.region_tree.specs.Modes.{HasAllPoints, IsWider, is_in_mode, is_required}
use Rattle.region_tree.specs.Needs.{requirement_of, requirements_of}
use Rattle.region_tree.specs.Requirements.{Requirement, covers, is_at, is_subsumed, is_of, join_from}
use Rattle.region_tree.specs.Requirements.{mode_at, modes_at, same_mode}
use Rattle.region_tree.specs.Trees.{RegionTree, set_at}
use Rattle.region_tree.specs.declared.needs.Need.{Need}
use Rattle.region_tree.proofs.Covering.{list_all-from_each, requirement_read}
use Rattle.region_tree.proofs.Joins.{joined-itself, modes_at-here, modes_at-not, same_mode-itself}
use Rattle.region_tree.proofs.Joins.{same_mode-tells}

module _ (t : RegionTree) (n : Need) (p : ℕ) where
  -- a need at the point has the mode
  mode_here : (other : Need) → is_in_mode n other ≡ true →
      is_at n.root.0 n.field p (requirement_of t other) ≡ true → other.mode ≡ n.mode
  mode_here other e at =
      let parts = and_parts (is_of n.root.0 n.field (requirement_of t other))
      (has (set_at t other.node.0) p) at in
      ⊎_elim (λ f. absurd (both_ways (is_of n.root.0 n.field (requirement_of t other))
      (not-true (is_of n.root.0 n.field (requirement_of t other)) f) parts.0))
      (λ f. sym (same_mode-tells n.mode other.mode f))
      (or_cases (not (is_of n.root.0 n.field (requirement_of t other)))
      (same_mode n.mode other.mode) e)

  -- onto the mode all modes join to it
  join_stays : (ns : List Need) → list_all (is_in_mode n) ns ≡ true →
      join_from (Some n.mode) (modes_at (requirements_of t ns) n.root.0 n.field p) ≡ Some n.mode
  join_stays [] e = refl
  join_stays (x ∷ ns) e =
      let parts = and_parts (is_in_mode n x) (list_all (is_in_mode n) ns) e in
      let rest = requirements_of t ns in
      ⊎_elim (λ at. ap (join_from (Some n.mode))
      (modes_at-here (requirement_of t x) rest n.root.0 n.field p at) ∙
      ap (λ m. join_from (Some (joined n.mode m)) (modes_at rest n.root.0 n.field p))
      (mode_here x parts.0 at) ∙ ap (λ m. join_from (Some m) (modes_at rest n.root.0 n.field p))
      (joined-itself n.mode) ∙ join_stays ns parts.1)
      (λ at. ap (join_from (Some n.mode))
      (modes_at-not (requirement_of t x) rest n.root.0 n.field p at) ∙ join_stays ns parts.1)
      (cases_Bool (is_at n.root.0 n.field p (requirement_of t x)))

  -- from nothing they join to it, or there are none
  join_one : (ns : List Need) → list_all (is_in_mode n) ns ≡ true →
      (modes_at (requirements_of t ns) n.root.0 n.field p ≡ []) ⊎
      (mode_at (requirements_of t ns) n.root.0 n.field p ≡ Some n.mode)
  join_one [] e = inl refl
  join_one (x ∷ ns) e =
      let parts = and_parts (is_in_mode n x) (list_all (is_in_mode n) ns) e in
      let rest = requirements_of t ns in
      ⊎_elim (λ at. inr (ap (join_from None)
      (modes_at-here (requirement_of t x) rest n.root.0 n.field p at) ∙
      ap (λ m. join_from (Some m) (modes_at rest n.root.0 n.field p)) (mode_here x parts.0 at) ∙
      join_stays ns parts.1)) (λ at. ⊎_elim
      (λ none. inl (modes_at-not (requirement_of t x) rest n.root.0 n.field p at ∙ none))
      (λ some. inr (ap (join_from None)
      (modes_at-not (requirement_of t x) rest n.root.0 n.field p at) ∙ some))
      (join_one ns parts.1)) (cases_Bool (is_at n.root.0 n.field p (requirement_of t x)))

covered_by_same : (m : Mode) (o : Option Mode) → (o ≡ None) ⊎ (o ≡ Some m) →
    is_subsumed o (Some m) ≡ true
covered_by_same m o h =
    ⊎_elim (λ e. ap (λ x. is_subsumed x (Some m)) e)
    (λ e. ap (λ x. is_subsumed x (Some m)) e ∙
    or_left (same_mode m m) (same_mode m Write) (same_mode-itself m)) h

pub covers-from_shared : (t : RegionTree) (ours theirs : List Need) (n : Need) →
    list_all (is_in_mode n) ours ≡ true → list_all (is_in_mode n) theirs ≡ true →
    HasAllPoints (requirements_of t theirs) (requirement_of t n) →
    covers (requirements_of t ours) (requirements_of t theirs) (requirement_of t n) ≡ true
covers-from_shared t ours theirs n e f h =
    list_all-from_each (λ p. is_subsumed (mode_at (requirements_of t ours) n.root.0 n.field p)
    (mode_at (requirements_of t theirs) n.root.0 n.field p)) (set_at t n.node.0)
    (λ p m. ap (is_subsumed (mode_at (requirements_of t ours) n.root.0 n.field p))
    (their_mode p (h p m)) ∙
    covered_by_same n.mode (mode_at (requirements_of t ours) n.root.0 n.field p) (our_mode p))
  where
    our_mode : (p : ℕ) → (mode_at (requirements_of t ours) n.root.0 n.field p ≡ None) ⊎
        (mode_at (requirements_of t ours) n.root.0 n.field p ≡ Some n.mode)
    our_mode p = ⊎_elim (λ none. inl (ap (join_from None) none)) (λ some. inr some)
        (join_one t n p ours e)

    their_mode : (p : ℕ) →
        is_required (modes_at (requirements_of t theirs) n.root.0 n.field p) ≡ true →
        mode_at (requirements_of t theirs) n.root.0 n.field p ≡ Some n.mode
    their_mode p r =
        ⊎_elim (λ none. absurd (false≢true (ap is_required (sym none) ∙ r))) (λ some. some)
        (join_one t n p theirs f)

required_at : (rs : List Requirement) (i : ℕ) (d : Requirement) (root field p : ℕ) → i < length rs →
    is_at root field p (get_or rs i d) ≡ true → is_required (modes_at rs root field p) ≡ true
required_at [] i d root field p l e = absurd (omega arith)
required_at (r ∷ rs) zero d root field p l e = ap is_required (modes_at-here r rs root field p e)
required_at (r ∷ rs) (suc i) d root field p l e =
    ⊎_elim (λ at. ap is_required (modes_at-here r rs root field p at))
    (λ at. ap is_required (modes_at-not r rs root field p at) ∙
    required_at rs i d root field p (omega arith) e) (cases_Bool (is_at root field p r))

-- a need in the field that has all the points
pub all_points_from : (t : RegionTree) (ns : List Need) (i : ℕ) (d : Need) (n : Need) →
    i < length ns → IsWider (requirement_of t (get_or ns i d)) (requirement_of t n) →
    HasAllPoints (requirements_of t ns) (requirement_of t n)
all_points_from t ns i d n l w p m =
    let read = requirement_read t ns i d l in
    required_at (requirements_of t ns) i (requirement_of t d) n.root.0 n.field p read.0
    (subst (λ (x : Requirement). is_at n.root.0 n.field p x ≡ true) (sym read.1)
    (and_from (is_of n.root.0 n.field (requirement_of t (get_or ns i d)))
    (has (set_at t (get_or ns i d).node.0) p) w.same_field
    (within_each (set_at t n.node.0) (set_at t (get_or ns i d).node.0) w.points p m)))
