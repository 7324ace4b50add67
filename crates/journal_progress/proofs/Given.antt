-- What a give keeps, whatever the segment yields: its operation holds no part any more, or it holds the segment's and has the
-- children that it had.
use Rattle.std.proofs.Common.{◌≡◌, ◌⊎◌, ◌++◌, ◌∷◌, ◌&&◌, ◌==◌, ℕ, zero, suc, Bool, List, [], cond, false, inl, inr, length, map, refl, set, true}
use Rattle.std.specs.Prelude.{get_or, slice_get}
use Rattle.region_tree.specs.Trees.{set_at}
use Rattle.region_tree.specs.declared.tree.OpNumber.{OpNumber}
use Rattle.dependence_graph.specs.Graphs.{issued, knot_on, parked, waited}
use Rattle.dependence_graph.specs.Knots.{knot_at, number}
use Rattle.dependence_graph.specs.declared.stage.Stage.TheVariants as knot
use Rattle.dependence_graph.specs.declared.stage.Waiting.{Waiting}
use Rattle.dependence_graph.specs.declared.stage.Waiting.TheVariants as graph
use Rattle.task_code.specs.declared.job.Job.{Job}
use Rattle.machine_terms.specs.declared.frame.Frame.{Frame}
use Rattle.machine_terms.specs.declared.outcome.After.{After}
use Rattle.machine_terms.specs.declared.outcome.Made.{Made}
use Rattle.machine_terms.specs.declared.outcome.Made.TheVariants as made
use Rattle.machine_terms.specs.declared.outcome.Yield.{Yield}
use Rattle.machine_terms.specs.declared.outcome.Yield.TheVariants as yield
use Rattle.machine_terms.specs.Makes.{is_sound}
use Rattle.board_terms.specs.declared.operation.Activity.TheVariants as activity
use Rattle.board_terms.specs.declared.operation.Ending.{Ending}
use Rattle.board_terms.specs.declared.operation.Ending.TheVariants as ending
use Rattle.board_terms.specs.declared.operation.Operation.{Operation}
use Rattle.board_terms.specs.declared.operation.Wait.{Wait}
use Rattle.board_terms.specs.declared.operation.Wait.TheVariants as wait
use Rattle.board_terms.specs.Calls.{called_in, caller_of, frames_before, needs_of}
use Rattle.board_terms.specs.Gives.{behind_segment, ended_by, given_after, making, needs_on, parked_for, parts_given, waits_for, yielded}
use Rattle.board_terms.specs.Makes.{is_here, partition_made, root_made}
use Rattle.board_terms.specs.States.{State, called_by, no_operation, operation_at, with_operation}
use Rattle.journal_progress.specs.Parts.{parts_held}
use Rattle.journal_progress.proofs.Kept.{Kept, Stays, all_issued, closed_stays, kept_itself, others_called, others_on, others_set, points_more, points_on, waits_on, waits_set}

-- what holds of one that is set in a list and of none
at_set : (P : Operation → Type 0) → P no_operation → (os : List Operation) (k : ℕ) (o : Operation) → P o → P (get_or (set os k o) k no_operation)
at_set P d [] k o g = d
at_set P d (x ∷ os) zero o g = g
at_set P d (x ∷ os) (suc k) o g = at_set P d os k o g

at_set_more : (P : Operation → Type 0) (more : List Operation) → ((j : ℕ) → P (get_or more j no_operation)) → (os : List Operation) (k : ℕ) (o : Operation) → P o →
    P (get_or (set os k o ++ more) k no_operation)
at_set_more P more d [] k o g = d k
at_set_more P more d (x ∷ os) zero o g = g
at_set_more P more d (x ∷ os) (suc k) o g = at_set_more P more d os k o g

module _ (job : Job) (s : State) (k : ℕ) (a : After) where
  -- no part is held, or the segment's are, by one that has the children that it had
  abbrev pub Left : Operation → Type 0
  Left n = (parts_held n ≡ []) ⊎ ((parts_held n ≡ a.parts) × (n.children ≡ (operation_at s k).children))

  none : Left no_operation
  none = inl refl

  called_none : (fs : List Frame) (j : ℕ) → Left (get_or (map (called_by (number k)) fs) j no_operation)
  called_none [] j = inl refl
  called_none (f ∷ fs) zero = inl refl
  called_none (f ∷ fs) (suc j) = called_none fs j

  abbrev StaysSo : State → Type 0
  StaysSo u = Stays s k Left u

  changed : (u : State) → Kept s k u → (n : Operation) → Left n → StaysSo (with_operation u k n)
  changed u h n g = ((others_on k s.operations u.operations (set u.operations k n) h.0 (others_set u.operations k n), h.1, h.2), at_set Left none u.operations k n g)

  parked_stays : (u : State) → StaysSo u → (w : Wait) (on : Waiting) → StaysSo (parked_for u k w on)
  parked_stays u h w on =
      let ops : List OpNumber = waited u.tree u.waits.listing k on in
      let c = changed u h.0 (record (operation_at u k) { wait = w }) h.1 in (
        (
          c.0.0,
          c.0.1,
          waits_on k s.waits u.waits (parked u.tree u.waits k on) h.0.2
              (waits_set u.waits k (knot_on u.waits.knots (knot_at u.waits.knots k).parent ops knot.Parked knot.Stopped)),
        ),
        c.1,
      )

  ended_stays : (u : State) → Kept s k u → (e : Ending) → StaysSo (ended_by u k e)
  ended_stays u h e = changed u h (record (operation_at u k) { parts = []; activity = activity.Closing e }) (inl refl)

  -- parts go back
  given_stays : (u : State) → Kept s k u → Kept s k (parts_given u k)
  given_stays u h = (others_on k s.operations u.operations (set u.operations k (record (operation_at u k) { parts = [] })) h.0 (others_set u.operations k (record (operation_at u k) { parts = [] })), h.1, h.2)

  given_none : (u : State) → (operation_at (parts_given u k) k).parts ≡ []
  given_none u = at_set (λ o. o.parts ≡ []) refl u.operations k (record (operation_at u k) { parts = [] }) refl

  called_stays : (u : State) → Kept s k u → (operation_at u k).parts ≡ [] → (fs : List Frame) (c : Bool) → StaysSo (called_in u k fs c)
  called_stays u h e fs true =
      let behind = issued u.tree u.waits (number k) (needs_of fs) in
      let x = caller_of u (operation_at u k) fs activity.Idle in (
        (
          others_on k s.operations u.operations (set u.operations k x ++ map (called_by (number k)) fs) h.0 (others_called u.operations k x (number k) fs),
          h.1,
          waits_on k s.waits behind _ (waits_on k s.waits u.waits behind h.2 (all_issued k u.tree u.waits (number k) (needs_of fs)))
              (waits_set behind k (knot_on behind.knots (knot_at behind.knots k).parent [] knot.Parked knot.Stopped)),
        ),
        at_set_more Left (map (called_by (number k)) fs) (called_none fs) u.operations k x (inl e),
      )
  called_stays u h e fs false =
      let behind = issued u.tree u.waits (number k) (needs_of fs) in
      let x = caller_of u (operation_at u k) fs (activity.Closing ending.Broken) in (
        (
          others_on k s.operations u.operations (set u.operations k x ++ map (called_by (number k)) fs) h.0 (others_called u.operations k x (number k) fs),
          h.1,
          waits_on k s.waits u.waits behind h.2 (all_issued k u.tree u.waits (number k) (needs_of fs)),
        ),
        at_set_more Left (map (called_by (number k)) fs) (called_none fs) u.operations k x (inl e),
      )

  made_stays : (m : Made) (u : State) → StaysSo u → StaysSo (making job.code m u k)
  made_stays (made.Root size space) u h =
      let v = root_made job.code size space u k in
      parked_stays v (
        (others_on k s.operations u.operations v.operations h.0.0 (others_set u.operations k _), points_on s.tree u.tree v.tree h.0.1 (points_more u.tree _ _), h.0.2),
        at_set Left none u.operations k _ h.1,
      ) wait.Nothing graph.Nothing
  made_stays (made.Partition r sets disjoint) u h = chosen (is_here u.tree r && is_sound (set_at u.tree r.node.0) sets disjoint)
    where
      chosen : (c : Bool) → StaysSo (cond c (parked_for (partition_made r sets disjoint u k) k wait.Nothing graph.Nothing) (ended_by u k ending.Broken))
      chosen true =
          let v = partition_made r sets disjoint u k in
          parked_stays v (
            (others_on k s.operations u.operations v.operations h.0.0 (others_set u.operations k _), points_on s.tree u.tree v.tree h.0.1 (points_more u.tree _ _), h.0.2),
            at_set Left none u.operations k _ h.1,
          ) wait.Nothing graph.Nothing
      chosen false = ended_stays u h.0 ending.Broken

  yielded_stays : (y : Yield) (u : State) → StaysSo u → StaysSo (yielded job.code job.turns u k y)
  yielded_stays (yield.Calls cs) u h =
      let v = parts_given u k in
      let fs = frames_before job.code job.turns v (operation_at v k) cs in
      called_stays v (given_stays u h.0) (given_none u) fs (length fs == length cs)
  yielded_stays (yield.Want root field) u h = parked_stays u h (wait.Part root field) (graph.Part (needs_on (operation_at u k).frame root.0 field))
  yielded_stays (yield.Await n) u h = parked_stays u h (wait.Child n) (waits_for (slice_get (operation_at u k).children n))
  yielded_stays (yield.Make m) u h = made_stays m u h
  yielded_stays (yield.End v) u h = ended_stays (parts_given u k) (given_stays u h.0) (ending.Value v)
  yielded_stays (yield.Fault f) u h = ended_stays u h.0 (ending.Fault f)
  yielded_stays yield.MachineFault u h = ended_stays u h.0 ending.Broken

  abbrev behind : State
  behind = with_operation s k (behind_segment (operation_at s k) a)

  pub give_stays : StaysSo (given_after job.code job.turns s k a)
  give_stays = closed_stays s k Left _ (yielded job.code job.turns behind k a.ends) k
      (yielded_stays a.ends behind (
        (others_set s.operations k (behind_segment (operation_at s k) a), (kept_itself s k).1, (kept_itself s k).2),
        at_set Left none s.operations k (behind_segment (operation_at s k) a) (inr (refl, refl)),
      ))
