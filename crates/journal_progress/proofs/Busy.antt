-- One that is claimed stays as it is while steps are made on others.
use Rattle.std.proofs.Common.{◌≡◌, ◌<◌, ◌++◌, ◌∷◌, ◌∙◌, ◌&&◌, ◌==◌, ℕ, zero, suc, Bool, List, None, Option, Some, [], ap, arith, cond, false, length, map, refl, set, subst, sym, true}
use Rattle.std.specs.Prelude.{get_or, slice_get}
use Rattle.std.proofs.lemmas.Bool.{and_parts, false≢true}
use Rattle.std.proofs.lemmas.List.{get_or_append_left, get_or-set_other, length-append, length-set}
use Rattle.plain_values.specs.Points.{points}
use Rattle.region_finder.specs.Listings.{all_uncovered, earlier}
use Rattle.region_tree.specs.Trees.{RegionTree, set_at}
use Rattle.region_tree.specs.declared.needs.Needs.{Needs}
use Rattle.region_tree.specs.declared.tree.OpNumber.{OpNumber}
use Rattle.dependence_graph.specs.Entries.{Knot}
use Rattle.dependence_graph.specs.Graphs.{Waits, covered_each, ended, issued, issued_each, issued_one, knot_on, waited}
use Rattle.dependence_graph.specs.Knots.{give_up, give_up_each, given_up, knot_at, no_knot, number, same_stage, some_failed, with_stage}
use Rattle.dependence_graph.specs.declared.stage.How.{How}
use Rattle.dependence_graph.specs.declared.stage.How.TheVariants as how
use Rattle.dependence_graph.specs.declared.stage.Stage.{Stage as Knotted}
use Rattle.dependence_graph.specs.declared.stage.Stage.TheVariants as knot
use Rattle.dependence_graph.specs.declared.stage.Waiting.{Waiting}
use Rattle.dependence_graph.specs.declared.stage.Waiting.TheVariants as graph
use Rattle.task_code.specs.declared.job.Job.{Job}
use Rattle.machine_terms.specs.declared.frame.Frame.{Frame}
use Rattle.machine_terms.specs.declared.outcome.After.{After}
use Rattle.machine_terms.specs.declared.outcome.Made.{Made}
use Rattle.machine_terms.specs.declared.outcome.Made.TheVariants as made
use Rattle.machine_terms.specs.declared.outcome.Yield.{Yield}
use Rattle.machine_terms.specs.declared.outcome.Yield.TheVariants as yield
use Rattle.machine_terms.specs.Makes.{is_sound}
use Rattle.machine_terms.specs.Segments.{segment}
use Rattle.run_journal.specs.declared.entry.StepKind.{StepKind}
use Rattle.run_journal.specs.declared.entry.StepKind.TheVariants.{Back, Claim, Copy, Give}
use Rattle.board_terms.specs.declared.operation.Activity.{Activity}
use Rattle.board_terms.specs.declared.operation.Activity.TheVariants as activity
use Rattle.board_terms.specs.declared.operation.Ending.TheVariants as ending
use Rattle.board_terms.specs.declared.operation.Operation.{Operation}
use Rattle.board_terms.specs.declared.operation.Wait.{Wait}
use Rattle.board_terms.specs.declared.operation.Wait.TheVariants as wait
use Rattle.board_terms.specs.Calls.{called_in, caller_of, frames_before, needs_of}
use Rattle.board_terms.specs.Claims.{activity_behind, back_in, claim_made, copied_in, moved_on, taken_back}
use Rattle.board_terms.specs.Closings.{all_over, closed_up, how_closed, may_close, over, up_from}
use Rattle.board_terms.specs.Gives.{behind_segment, ended_by, given_after, given_in, making, needs_on, parked_for, parts_given, waits_for, yielded}
use Rattle.board_terms.specs.Makes.{is_here, partition_made, root_made}
use Rattle.board_terms.specs.Replays.{step_of}
use Rattle.board_terms.specs.Stages.{is_closing, may_be_claimed, stage_at, stage_of}
use Rattle.board_terms.specs.States.{State, called_by, doing, no_operation, operation_at, with_operation}
use Rattle.claimed_trees.proofs.Back.{IsClaimed}
use Rattle.journal_progress.proofs.Steps.{claimed_unclosing}

module _ (k : ℕ) (o : Operation) where
  -- it is this one in the list, and has begun
  abbrev HasRow : List Operation → Type 0
  HasRow os = (k < length os) × (get_or os k no_operation ≡ o)

  abbrev HasKnot : List Knot → Type 0
  HasKnot ks = (k < length ks) × ((knot_at ks k).stage ≡ knot.Begun)

  abbrev pub IsBusy : State → Type 0
  IsBusy u = HasRow u.operations × HasKnot u.waits.knots

  row_set : (os : List Operation) (j : ℕ) (n : Operation) → ¬ (k ≡ j) → HasRow os → HasRow (set os j n)
  row_set os j n d h = (subst (λ m. k < m) (sym (length-set os j n)) h.0, get_or-set_other os j k n no_operation d ∙ h.1)

  row_more : (os more : List Operation) → HasRow os → HasRow (os ++ more)
  row_more os more h =
      let l = h.0 in
      (omega (arith, l, length-append os more), get_or_append_left os more no_operation k l ∙ h.1)

  knot_set : (ks : List Knot) (j : ℕ) (x : Knot) → ¬ (k ≡ j) → HasKnot ks → HasKnot (set ks j x)
  knot_set ks j x d h = (subst (λ m. k < m) (sym (length-set ks j x)) h.0, ap (λ (y : Knot). y.stage) (get_or-set_other ks j k x no_knot d) ∙ h.1)

  knot_more : (ks more : List Knot) → HasKnot ks → HasKnot (ks ++ more)
  knot_more ks more h =
      let l = h.0 in
      (omega (arith, l, length-append ks more), ap (λ (y : Knot). y.stage) (get_or_append_left ks more no_knot k l) ∙ h.1)

  each_issued : (t : RegionTree) (g : Waits) (parent : OpNumber) (ns : List Needs) → HasKnot g.knots → HasKnot (issued_each t g parent ns).knots
  each_issued t g parent [] h = h
  each_issued t g parent (n ∷ ns) h = each_issued t (issued_one t g parent n.items) parent ns
      (knot_more g.knots (knot_on g.knots parent (earlier t g.listing parent.0 n.items) knot.Waiting knot.Dropped ∷ []) h)

  each_covered : (context : ℕ) (ns : List Needs) (g : Waits) (n : ℕ) → HasKnot g.knots → HasKnot (covered_each context ns g n).knots
  each_covered context [] g n h = h
  each_covered context (m ∷ ns) g n h = each_covered context ns (record { knots = g.knots; listing = all_uncovered context n m.items g.listing }) (suc n) h

  all_issued : (t : RegionTree) (g : Waits) (parent : OpNumber) (ns : List Needs) → HasKnot g.knots → HasKnot (issued t g parent ns).knots
  all_issued t g parent ns h = each_covered parent.0 ns (issued_each t g parent ns) (length g.knots) (each_issued t g parent ns h)

  -- ---- what gives up waits

  module _ (from to : Knotted) where
    one_up : (ks : List Knot) (n : ℕ) → HasKnot ks → HasKnot (give_up from to ks n)
    one_up ks n h = chosen (same_stage (knot_at ks n).stage from && some_failed ks (knot_at ks n).on) refl
      where
        chosen : (b : Bool) → (same_stage (knot_at ks n).stage from && some_failed ks (knot_at ks n).on) ≡ b → HasKnot (cond b (with_stage ks n to) ks)
        chosen true q = knot_set ks n (record { parent = (knot_at ks n).parent; on = (knot_at ks n).on; stage = to })
            (λ e. false≢true (sym (ap (λ x. same_stage x from) (ap (λ m. (knot_at ks m).stage) (sym e) ∙ h.1))
            ∙ (and_parts (same_stage (knot_at ks n).stage from) (some_failed ks (knot_at ks n).on) q).0)) h
        chosen false q = h

    each_up : (ns : List ℕ) (ks : List Knot) → HasKnot ks → HasKnot (give_up_each from to ks ns)
    each_up [] ks h = h
    each_up (n ∷ ns) ks h = each_up ns (give_up from to ks n) (one_up ks n h)

  all_up : (ks : List Knot) → HasKnot ks → HasKnot (given_up ks)
  all_up ks h = each_up knot.Parked knot.Stopped (points (length ks)) (give_up_each knot.Waiting knot.Dropped ks (points (length ks)))
      (each_up knot.Waiting knot.Dropped (points (length ks)) ks h)

  one_ended : (g : Waits) (j : ℕ) (h : How) → ¬ (k ≡ j) → HasKnot g.knots → HasKnot (ended g j h).knots
  one_ended g j how.Done d h = knot_set g.knots j (record { parent = (knot_at g.knots j).parent; on = (knot_at g.knots j).on; stage = knot.Done }) d h
  one_ended g j how.Failed d h = all_up (with_stage g.knots j knot.Failed)
      (knot_set g.knots j (record { parent = (knot_at g.knots j).parent; on = (knot_at g.knots j).on; stage = knot.Failed }) d h)

  -- ---- what closes is another

  module _ (busy : IsClaimed o.activity) where
    unclosing : (u : State) → IsBusy u → is_closing (stage_at u k) ≡ false
    unclosing u h = (λ i. is_closing (stage_of (h.1.1 i) (operation_at u k).wait (h.0.1 i).activity)) ∙ claimed_unclosing o.activity busy

    up_busy : (j : ℕ) (close : State → ℕ → State) (u : State) → ((v : State) (i : ℕ) → IsBusy v → IsBusy (close v i)) → IsBusy u → IsBusy (up_from j close u)
    up_busy zero close u more h = h
    up_busy (suc j) close u more h = more u (operation_at u (suc j)).parent.0 h

    closed_busy : (n : ℕ) (u : State) (i : ℕ) → IsBusy u → IsBusy (closed_up n u i)
    closed_busy zero u i h = h
    closed_busy (suc n) u i h = chosen (may_close u i) refl (closed_busy n)
      where
        chosen : (c : Bool) → may_close u i ≡ c → ((v : State) (j : ℕ) → IsBusy v → IsBusy (closed_up n v j)) → IsBusy (cond c (up_from i (closed_up n) (over u i)) u)
        chosen true e more = up_busy i (closed_up n) (over u i) more (
          h.0,
          one_ended u.waits i (how_closed u i)
              (λ q. false≢true (sym (unclosing u h) ∙ ap (λ m. is_closing (stage_at u m)) q ∙ (and_parts (is_closing (stage_at u i)) (all_over u (operation_at u i).children) e).0)) h.1,
        )
        chosen false e more = h

    -- ---- steps on another

    module _ (job : Job) (j : ℕ) (d : ¬ (k ≡ j)) where
      parked_busy : (u : State) → IsBusy u → (w : Wait) (on : Waiting) → IsBusy (parked_for u j w on)
      parked_busy u h w on =
          let ops : List OpNumber = waited u.tree u.waits.listing j on in (
            row_set u.operations j (record (operation_at u j) { wait = w }) d h.0,
            knot_set u.waits.knots j (knot_on u.waits.knots (knot_at u.waits.knots j).parent ops knot.Parked knot.Stopped) d h.1,
          )

      called_busy : (u : State) → IsBusy u → (fs : List Frame) (c : Bool) → IsBusy (called_in u j fs c)
      called_busy u h fs true =
          let behind = issued u.tree u.waits (number j) (needs_of fs) in
          let x = caller_of u (operation_at u j) fs activity.Idle in (
            row_more (set u.operations j x) (map (called_by (number j)) fs) (row_set u.operations j x d h.0),
            knot_set behind.knots j (knot_on behind.knots (knot_at behind.knots j).parent [] knot.Parked knot.Stopped) d (all_issued u.tree u.waits (number j) (needs_of fs) h.1),
          )
      called_busy u h fs false =
          let x = caller_of u (operation_at u j) fs (activity.Closing ending.Broken) in
          (row_more (set u.operations j x) (map (called_by (number j)) fs) (row_set u.operations j x d h.0), all_issued u.tree u.waits (number j) (needs_of fs) h.1)

      made_busy : (m : Made) (u : State) → IsBusy u → IsBusy (making job.code m u j)
      made_busy (made.Root size space) u h = parked_busy (root_made job.code size space u j) (row_set u.operations j _ d h.0, h.1) wait.Nothing graph.Nothing
      made_busy (made.Partition r sets disjoint) u h = chosen (is_here u.tree r && is_sound (set_at u.tree r.node.0) sets disjoint)
        where
          chosen : (c : Bool) → IsBusy (cond c (parked_for (partition_made r sets disjoint u j) j wait.Nothing graph.Nothing) (ended_by u j ending.Broken))
          chosen true = parked_busy (partition_made r sets disjoint u j) (row_set u.operations j _ d h.0, h.1) wait.Nothing graph.Nothing
          chosen false = (row_set u.operations j _ d h.0, h.1)

      yielded_busy : (y : Yield) (u : State) → IsBusy u → IsBusy (yielded job.code job.turns u j y)
      yielded_busy (yield.Calls cs) u h =
          let v = parts_given u j in
          let fs = frames_before job.code job.turns v (operation_at v j) cs in
          called_busy v (row_set u.operations j (record (operation_at u j) { parts = [] }) d h.0, h.1) fs (length fs == length cs)
      yielded_busy (yield.Want root field) u h = parked_busy u h (wait.Part root field) (graph.Part (needs_on (operation_at u j).frame root.0 field))
      yielded_busy (yield.Await n) u h = parked_busy u h (wait.Child n) (waits_for (slice_get (operation_at u j).children n))
      yielded_busy (yield.Make m) u h = made_busy m u h
      yielded_busy (yield.End v) u h =
          let w = parts_given u j in
          (row_set w.operations j _ d (row_set u.operations j (record (operation_at u j) { parts = [] }) d h.0), h.1)
      yielded_busy (yield.Fault f) u h = (row_set u.operations j _ d h.0, h.1)
      yielded_busy yield.MachineFault u h = (row_set u.operations j _ d h.0, h.1)

      given_busy : (u : State) (a : After) → IsBusy u → IsBusy (given_after job.code job.turns u j a)
      given_busy u a h =
          let v = with_operation u j (behind_segment (operation_at u j) a) in
          closed_busy _ (yielded job.code job.turns v j a.ends) j (yielded_busy a.ends v (row_set u.operations j (behind_segment (operation_at u j) a) d h.0, h.1))

      abbrev IfBusy : Option State → Type 0
      IfBusy None = Unit {0}
      IfBusy (Some u) = IsBusy u

      module _ (u : State) (h : IsBusy u) (seat : ℕ) where
        by_claim : (c : Bool) → IfBusy (cond c (Some (claim_made u j seat)) None)
        by_claim true = (row_set u.operations j _ d h.0, knot_set u.waits.knots j (record { parent = (knot_at u.waits.knots j).parent; on = (knot_at u.waits.knots j).on; stage = knot.Begun }) d h.1)
        by_claim false = tt

        by_copy : (a : Activity) → IfBusy (copied_in job.code u j seat a)
        by_copy activity.Idle = tt
        by_copy (activity.Out c x) = tt
        by_copy (activity.Closing x) = tt
        by_copy (activity.Filling c f) = chosen (c.seat == seat)
          where
            chosen : (q : Bool) → IfBusy (cond q (Some (doing u j (activity_behind job.code u (operation_at u j) c (moved_on u f)))) None)
            chosen true = (row_set u.operations j (record (operation_at u j) { activity = activity_behind job.code u (operation_at u j) c (moved_on u f) }) d h.0, h.1)
            chosen false = tt

        by_give : (a : Activity) → IfBusy (given_in job.code job.turns u j seat a)
        by_give activity.Idle = tt
        by_give (activity.Filling c f) = tt
        by_give (activity.Closing x) = tt
        by_give (activity.Out c before) = chosen (c.seat == seat)
          where
            chosen : (q : Bool) → IfBusy (cond q (Some (given_after job.code job.turns u j (segment before))) None)
            chosen true = given_busy u (segment before) h
            chosen false = tt

        back_chosen : (q : Bool) → IfBusy (cond q (Some (taken_back u j)) None)
        back_chosen true = (row_set u.operations j (record (operation_at u j) { activity = activity.Idle }) d h.0, knot_set u.waits.knots j _ d h.1)
        back_chosen false = tt

        by_back : (a : Activity) → IfBusy (back_in u j seat a)
        by_back activity.Idle = tt
        by_back (activity.Closing x) = tt
        by_back (activity.Filling c f) = back_chosen (c.seat == seat)
        by_back (activity.Out c x) = back_chosen (c.seat == seat)

        -- whatever the step
        step_if : (kind : StepKind) → IfBusy (step_of job u j seat kind)
        step_if Claim = by_claim (may_be_claimed u j)
        step_if Copy = by_copy (operation_at u j).activity
        step_if Give = by_give (operation_at u j).activity
        step_if Back = by_back (operation_at u j).activity

        pub step_busy : (kind : StepKind) (v : State) → step_of job u j seat kind ≡ Some v → IsBusy v
        step_busy kind v e = subst IfBusy e (step_if kind)
