-- What a state keeps behind a segment that is given back.
use Rattle.std.specs.Prelude.{IfSome, OnErr, OnOk, Result, Ok, Err}
use Rattle.std.proofs.Common.{◌≡◌, ◌<◌, ◌∙◌, ℕ, true, All, None, Option, Some, ap, get_or, length, refl, set, subst, sym}
use Rattle.std.proofs.lemmas.Bool.{false≢true}
use Rattle.std.proofs.lemmas.Option.{none-some, same_Some}
use Rattle.std.proofs.lemmas.List.Elements.{All-get_or, All-nil}
use Rattle.region_tree.specs.Needs.{AreNeeds, IsNeed}
use Rattle.region_tree.specs.Trees.{RegionTree}
use Rattle.region_tree.specs.declared.needs.Needs.{Needs}
use Rattle.logical_map.specs.Maps.{LogicalMap}
use Rattle.dependence_graph.specs.Graphs.{Waits, knot_on, parked, waited}
use Rattle.dependence_graph.specs.Knots.{knot_at}
use Rattle.dependence_graph.specs.declared.stage.Stage.TheVariants.{Begun, Parked, Stopped}
use Rattle.dependence_graph.specs.declared.stage.Waiting.{Waiting}
use Rattle.machine_terms.specs.declared.frame.Before.{Before}
use Rattle.machine_terms.specs.declared.frame.Frame.{Frame}
use Rattle.machine_terms.specs.declared.outcome.After.{After}
use Rattle.machine_terms.specs.Segments.{segment}
use Rattle.board_terms.specs.declared.operation.Activity.{Activity}
use Rattle.board_terms.specs.declared.operation.Activity.TheVariants as activity
use Rattle.board_terms.specs.declared.operation.Ending.{Ending}
use Rattle.board_terms.specs.declared.operation.Operation.{Operation}
use Rattle.board_terms.specs.declared.operation.Wait.{Wait}
use Rattle.board_terms.specs.Gives.{frame_left}
use Rattle.board_terms.specs.States.{State, no_operation, operation_at}
use Rattle.board_gives.specs.Gives.{ended_with, parked_with}
use Rattle.board_gives.specs.Makes.{IsRootBelow}
use Rattle.board_state.specs.Kept.{HasNeeds, IsKept, IsLent, IsLentWith, is_claimed, state_of}
use Rattle.board_state.specs.Steps.{HasLeft, before_out}
use Rattle.board_state.proofs.Claims.{claimed_there, same_operation}
use Rattle.board_state.proofs.Keeping.{StaysBut, kept_by, stays_set}
use Rattle.board_state.proofs.Segments.{segment_needs}

-- ---- what is out

pub out_claimed : (a : Activity) (b : Before) → before_out a ≡ Some b → is_claimed a ≡ true
out_claimed (activity.Out c d) b e = refl
out_claimed (activity.Filling c f) b e = refl
out_claimed activity.Idle b e = absurd (none-some b e)
out_claimed (activity.Closing x) b e = absurd (none-some b e)

pub out_there : (s : State) (k : ℕ) (b : Before) → before_out (operation_at s k).activity ≡ Some b → k < length s.operations
out_there s k b e = claimed_there s k (out_claimed (operation_at s k).activity b e)

pub left_claimed : (x : Activity) (a : After) → HasLeft x a → is_claimed x ≡ true
left_claimed (activity.Out c d) a h = refl
left_claimed (activity.Filling c f) a h = refl
left_claimed activity.Idle a h = absurd h
left_claimed (activity.Closing y) a h = absurd h

pub left_there : (s : State) (k : ℕ) (a : After) → HasLeft (operation_at s k).activity a → k < length s.operations
left_there s k a h = claimed_there s k (left_claimed (operation_at s k).activity a h)

pub left_begun : (s : State) (k : ℕ) (a : After) → IsKept s → HasLeft (operation_at s k).activity a → (knot_at s.waits.knots k).stage ≡ Begun
left_begun s k a kept h = kept.begun k (left_claimed (operation_at s k).activity a h)

-- what it was run from
pub run_from : (x : Activity) (a : After) → HasLeft x a → (b : Before) × ((before_out x ≡ Some b) × (a ≡ segment b))
run_from (activity.Out c d) a h = (d, (refl, h))
run_from (activity.Filling c f) a h = absurd h
run_from activity.Idle a h = absurd h
run_from (activity.Closing y) a h = absurd h

pub left_by_run : (x : Activity) (b : Before) (a : After) → before_out x ≡ Some b → a ≡ segment b → HasLeft x a
left_by_run (activity.Out c d) b a e h = h ∙ ap segment (sym (same_Some d b e))
left_by_run (activity.Filling c f) b a e h = absurd (none-some b e)
left_by_run activity.Idle b a e h = absurd (none-some b e)
left_by_run (activity.Closing y) b a e h = absurd (none-some b e)

-- it is lent with its needs, and its segment leaves these
lent_needs : (needs : Needs) (a : Activity) (b : Before) → before_out a ≡ Some b → IsLentWith needs a → b.frame.needs ≡ needs
lent_needs needs (activity.Out c d) b e l = ap (λ (x : Before). x.frame.needs) (sym (same_Some d b e)) ∙ l
lent_needs needs (activity.Filling c f) b e l = absurd (none-some b e)
lent_needs needs activity.Idle b e l = absurd (none-some b e)
lent_needs needs (activity.Closing x) b e l = absurd (none-some b e)

pub out_needs : (s : State) (k : ℕ) (b : Before) → IsKept s → before_out (operation_at s k).activity ≡ Some b →
    b.frame.needs ≡ (operation_at s k).frame.needs
out_needs s k b kept e = lent_needs (operation_at s k).frame.needs (operation_at s k).activity b e
    (All-get_or IsLent s.operations k no_operation (out_there s k b e) kept.lent)

pub own_needs : (s : State) (k : ℕ) → IsKept s → k < length s.operations → HasNeeds s.tree (operation_at s k)
own_needs s k kept b = All-get_or (HasNeeds s.tree) s.operations k no_operation b kept.needs

left_by : (t : RegionTree) (f : Frame) (needs : Needs) (o : Option Frame) → IfSome o (λ g. g.needs ≡ needs) → AreNeeds t needs.items →
    AreNeeds t (frame_left f o).needs.items
left_by t f needs None e a = All-nil (IsNeed t)
left_by t f needs (Some g) e a = subst (λ (n : Needs). AreNeeds t n.items) (sym e) a

pub left_needs : (s : State) (k : ℕ) (a : After) → IsKept s → HasLeft (operation_at s k).activity a →
    AreNeeds s.tree (frame_left (operation_at s k).frame a.frame).needs.items
left_needs s k a kept h =
    let run = run_from (operation_at s k).activity a h in
    let b = run.0 in
    let needs : AreNeeds s.tree (frame_left (operation_at s k).frame (segment b).frame).needs.items =
    left_by s.tree (operation_at s k).frame b.frame.needs (segment b).frame (segment_needs b)
    (subst (λ (n : Needs). AreNeeds s.tree n.items) (sym (out_needs s k b kept run.1.0)) (own_needs s k kept (left_there s k a h))) in
    subst (λ (x : After). AreNeeds s.tree (frame_left (operation_at s k).frame x.frame).needs.items) (sym run.1.1) needs

-- ---- what is kept

stays_itself : (s : State) (k : ℕ) → StaysBut k s.waits.knots s.waits.knots
stays_itself s k = record { counted = refl; parents = λ j. refl; begun = λ j other h. h }

pub ended_kept : (s : State) (k : ℕ) (a : After) (x : Ending) (map : LogicalMap) → IsKept s → HasLeft (operation_at s k).activity a →
    All (IsRootBelow s.tree.roots) map →
    IsKept (state_of s.tree s.roots map (set s.operations k (ended_with (operation_at s k) a x)) s.waits s.turns)
ended_kept s k a x map kept h live = kept_by s k (ended_with (operation_at s k) a x) s.waits map s.turns kept (left_there s k a h)
    (left_needs s k a kept h) refl refl (stays_itself s k) (λ c. absurd (false≢true c)) tt live

parked_kept : (s : State) (k : ℕ) (a : After) (w : Wait) (on : Waiting) → IsKept s → HasLeft (operation_at s k).activity a →
    IsKept (state_of s.tree s.roots s.map (set s.operations k (parked_with (operation_at s k) a w)) (parked s.tree s.waits k on) s.turns)
parked_kept s k a w on kept h =
    let there : k < length s.waits.knots = subst (λ (n : ℕ). k < n) kept.counted (left_there s k a h) in
    kept_by s k (parked_with (operation_at s k) a w) (parked s.tree s.waits k on) s.map s.turns kept (left_there s k a h)
    (left_needs s k a kept h) refl refl
    (stays_set s.waits.knots k (knot_on s.waits.knots (knot_at s.waits.knots k).parent (waited s.tree s.waits.listing k on) Parked Stopped) there refl)
    (λ c. absurd (false≢true c)) tt kept.live

-- whatever the map is
pub same_kept : (s : State) (k : ℕ) (map : LogicalMap) → IsKept s → k < length s.operations → All (IsRootBelow s.tree.roots) map →
    IsKept (state_of s.tree s.roots map (set s.operations k (operation_at s k)) s.waits s.turns)
same_kept s k map kept b live = kept_by s k (operation_at s k) s.waits map s.turns kept b (own_needs s k kept b) refl refl (stays_itself s k)
    (kept.begun k) (All-get_or IsLent s.operations k no_operation b kept.lent) live

-- ---- the same by its parts

module _ (s : State) (k : ℕ) (after : After) (x o : Operation) (kept : IsKept s)
    (left : HasLeft (operation_at s k).activity after) (here : x ≡ get_or s.operations k x) where
  at : x ≡ operation_at s k
  at = same_operation s.operations k x (left_there s k after left) here

  unchanged : (map : LogicalMap) → All (IsRootBelow s.tree.roots) map → o ≡ x → IsKept (state_of s.tree s.roots map (set s.operations k o) s.waits s.turns)
  unchanged map live h = subst (λ (y : Operation). IsKept (state_of s.tree s.roots map (set s.operations k y) s.waits s.turns)) (sym (h ∙ at))
      (same_kept s k map kept (left_there s k after left) live)

  pub ended_stays : {A E : Type 0} (r : Result A E) (y : Ending) (map : LogicalMap) → All (IsRootBelow s.tree.roots) map → OnOk r (o ≡ ended_with x after y) → OnErr r (o ≡ x) →
      IsKept (state_of s.tree s.roots map (set s.operations k o) s.waits s.turns)
  ended_stays (Ok a) y map live f g =
      subst (λ (z : Operation). IsKept (state_of s.tree s.roots map (set s.operations k z) s.waits s.turns))
      (sym (f ∙ ap (λ (z : Operation). ended_with z after y) at)) (ended_kept s k after y map kept left live)
  ended_stays (Err b) y map live f g = unchanged map live g

  pub parked_stays : {A E : Type 0} (r : Result A E) (w : Wait) (on : Waiting) (waits : Waits) → OnOk r (o ≡ parked_with x after w) →
      OnOk r (waits ≡ parked s.tree s.waits k on) → OnErr r (o ≡ x) → OnErr r (waits ≡ s.waits) →
      IsKept (state_of s.tree s.roots s.map (set s.operations k o) waits s.turns)
  parked_stays (Ok a) w on waits f f2 g g2 =
      subst (λ (v : Waits). IsKept (state_of s.tree s.roots s.map (set s.operations k o) v s.turns)) (sym f2)
      (subst (λ (z : Operation). IsKept (state_of s.tree s.roots s.map (set s.operations k z) (parked s.tree s.waits k on) s.turns))
      (sym (f ∙ ap (λ (z : Operation). parked_with z after w) at)) (parked_kept s k after w on kept left))
  parked_stays (Err b) w on waits f f2 g g2 =
      subst (λ (v : Waits). IsKept (state_of s.tree s.roots s.map (set s.operations k o) v s.turns)) (sym g2) (unchanged s.map kept.live g)
