-- No step breaks an operation of a board of sound code that fits.
use Rattle.std.proofs.Common.{◌≡◌, ℕ, ◌<◌, ◌==◌, ◌&&◌, List, [], ◌∷◌, Bool, true, false, cond, Some, None, Option, refl, sym, ap, ◌∙◌, subst, length, eq-eqb}
use Rattle.std.specs.Prelude.{All, set, slice_get}
use Rattle.std.proofs.lemmas.Bool.{and_from}
use Rattle.std.proofs.lemmas.List.{length-map}
use Rattle.std.proofs.lemmas.List.Elements.{All-head, All-tail}
use Rattle.std.proofs.lemmas.Option.{none-some, same_Some}
use Rattle.region_tree.specs.Needs.{requirements_of}
use Rattle.region_tree.specs.Trees.{set_at}
use Rattle.region_tree.specs.declared.needs.Needs.{Needs}
use Rattle.region_tree.specs.declared.piece.Part.{Part}
use Rattle.logical_map.specs.Fills.{Filling as Fill, elements_of}
use Rattle.logical_map.specs.Maps.{Column, columns_of, is_live}
use Rattle.dependence_graph.specs.Knots.{number}
use Rattle.run_journal.specs.declared.entry.StepKind.{StepKind}
use Rattle.run_journal.specs.declared.entry.StepKind.TheVariants.{Back, Claim as Claiming, Copy, Give}
use Rattle.task_code.specs.declared.code.Code.{Code}
use Rattle.task_code.specs.declared.job.Job.{Job}
use Rattle.machine_terms.specs.declared.frame.Before.{Before}
use Rattle.machine_terms.specs.declared.frame.Frame.{Frame}
use Rattle.machine_terms.specs.declared.outcome.CallOut.{CallOut}
use Rattle.machine_terms.specs.declared.outcome.Made.TheVariants as made
use Rattle.machine_terms.specs.declared.outcome.Yield.{Yield}
use Rattle.machine_terms.specs.declared.outcome.Yield.TheVariants as yield
use Rattle.machine_terms.specs.declared.value.RegionValue.{RegionValue}
use Rattle.machine_terms.specs.declared.value.Value.{Value}
use Rattle.machine_terms.specs.declared.value.Value.TheVariants as value
use Rattle.machine_terms.specs.Contents.{kinds_of}
use Rattle.machine_terms.specs.Makes.{is_sound}
use Rattle.machine_terms.specs.Segments.{segment}
use Rattle.board_rules.specs.NumberedBoards.{Board}
use Rattle.regent_boards.specs.RegentMachine.{regent_ground}
use Rattle.segment_regions.specs.Values.{YieldHas}
use Rattle.code_boards.specs.Views.{spaces_of}
use Rattle.board_terms.specs.declared.claim.Claim.{Claim}
use Rattle.board_terms.specs.declared.operation.Activity.{Activity}
use Rattle.board_terms.specs.declared.operation.Activity.TheVariants as activity
use Rattle.board_terms.specs.declared.operation.Ending.TheVariants as ending
use Rattle.board_terms.specs.declared.operation.Operation.{Operation}
use Rattle.board_terms.specs.declared.operation.Said.{Said}
use Rattle.board_terms.specs.declared.operation.Wait.TheVariants as wait
use Rattle.board_terms.specs.Calls.{called_in, caller_of, frames_before}
use Rattle.board_terms.specs.Claims.{activity_behind, back_in, before_of, claim_made, claim_on, copied_in, fill_for, moved_on, taken_back}
use Rattle.board_terms.specs.Gives.{also_said, ended_by, frame_left, given_after, given_in, parked_for, parts_given, with_parts, yielded}
use Rattle.board_terms.specs.Makes.{is_here, partition_made, root_made}
use Rattle.board_terms.specs.Replays.{step_of}
use Rattle.board_terms.specs.Stages.{may_be_claimed}
use Rattle.board_terms.specs.States.{State, doing, operation_at}
use Rattle.dependence_graph.specs.declared.stage.Waiting.TheVariants as graph
use Rattle.board_trees.specs.Frames.{HasPlaces}
use Rattle.board_trees.specs.Shows.{ShowsBoard}
use Rattle.board_trees.proofs.Places.{placed_is_here}
use Rattle.called_trees.proofs.Opens.{found_all}
use Rattle.given_trees.proofs.Maps.{fields_same, parts_live, parts_shapes}
use Rattle.fit_rules.specs.Shapes.{Each}
use Rattle.fit_rules.specs.Fits.{claims, count_at, Program}
use Rattle.fit_rules.specs.Ends.{CallsWell, IsLeft}
use Rattle.fit_laws.proofs.Segments.{children_are_within, no_segment_breaks, partitions_are_sound}
use Rattle.fit_boards.specs.Fitting.{Going, space_at, StateFits}
use Rattle.fit_boards.specs.Steps.{IsKnown, IsSoundJob}
use Rattle.fit_boards.proofs.Accepted.{AreLive, out_live, region_is}
use Rattle.fit_boards.proofs.Given.{behind_of, left_of, row_again, row_there}
use Rattle.fit_boards.proofs.Issued.{all_issued, all_opened, AreHere}
use Rattle.fit_boards.proofs.Known.{out_calls, out_places, shown_is_known}
use Rattle.fit_boards.proofs.Unbroken.{AreWhole, both_whole, called_whole, followed_whole, IsWhole, row_whole, set_whole}
use Rattle.fit_boards.proofs.Yields.{after, going, is_like, out, within}

-- ---- what a segment yields

module _ (code : Code) (turns : ℕ) (s : State) (k : ℕ) (ps : List Part) (said : List Said) (whole : AreWhole s.operations) where
  now_whole : (fo : Option Frame) → AreWhole (behind_of s k ps said fo).operations
  now_whole fo = set_whole s.operations k (left_of (operation_at s k) ps said fo) tt whole

  back_whole : (fo : Option Frame) → AreWhole (parts_given (behind_of s k ps said fo) k).operations
  back_whole fo =
      let now = behind_of s k ps said fo in row_whole now k (record (operation_at now k) { parts = [] }) refl (now_whole fo)

  -- calls that are all issued, and partitions that pass the test, break nothing
  yields_whole : (fo : Option Frame) (y : Yield) → (y ≡ yield.MachineFault → ⊥) →
      ((cs : List CallOut) → y ≡ yield.Calls cs → length (frames_before code turns (parts_given (behind_of s k ps said fo) k) (operation_at (parts_given (behind_of s k ps said fo) k) k) cs) ≡ length cs) →
      ((r : RegionValue) (sets : List (List ℕ)) (flag : Bool) → y ≡ yield.Make (made.Partition r sets flag) → is_here s.tree r && is_sound (set_at s.tree r.node.0) sets flag ≡ true) →
      AreWhole (yielded code turns (behind_of s k ps said fo) k y).operations
  yields_whole fo (yield.Want root field) sane calls parts =
      let now = behind_of s k ps said fo in row_whole now k (record (operation_at now k) { wait = wait.Part root field }) refl (now_whole fo)
  yields_whole fo (yield.Await n) sane calls parts =
      let now = behind_of s k ps said fo in row_whole now k (record (operation_at now k) { wait = wait.Child n }) refl (now_whole fo)
  yields_whole fo (yield.Make (made.Root size sp)) sane calls parts =
      let now = behind_of s k ps said fo in
      let more = root_made code size sp now k in
      row_whole more k (record (operation_at more k) { wait = wait.Nothing }) refl (row_whole now k _ refl (now_whole fo))
  yields_whole fo (yield.Make (made.Partition r sets flag)) sane calls parts =
      let now = behind_of s k ps said fo in
      let more = partition_made r sets flag now k in
      subst (λ b. AreWhole (cond b (parked_for more k wait.Nothing graph.Nothing) (ended_by now k ending.Broken)).operations) (sym (parts r sets flag refl))
      (row_whole more k (record (operation_at more k) { wait = wait.Nothing }) refl (row_whole now k _ refl (now_whole fo)))
  yields_whole fo (yield.Calls cs) sane calls parts =
      let back = parts_given (behind_of s k ps said fo) k in
      let fs = frames_before code turns back (operation_at back k) cs in
      subst (λ b. AreWhole (called_in back k fs b).operations) (sym (eq-eqb (length fs) (length cs) (calls cs refl)))
      (both_whole (set back.operations k (caller_of back (operation_at back k) fs activity.Idle)) _
      (set_whole back.operations k (caller_of back (operation_at back k) fs activity.Idle) tt (back_whole fo)) (called_whole (number k) fs))
  yields_whole fo (yield.End v) sane calls parts =
      let back = parts_given (behind_of s k ps said fo) k in
      set_whole back.operations k (record (operation_at back k) { parts = []; activity = activity.Closing (ending.Value v) }) tt (back_whole fo)
  yields_whole fo (yield.Fault x) sane calls parts =
      let now = behind_of s k ps said fo in set_whole now.operations k (record (operation_at now k) { parts = []; activity = activity.Closing (ending.Fault x) }) tt (now_whole fo)
  yields_whole fo yield.MachineFault sane calls parts = absurd (sane refl)

-- ---- a give

-- regions that are handed on are here
args_here : (u : State) (vs : List Value) → All (HasPlaces u.tree) vs → AreHere u vs
args_here u vs h i r e = (placed_is_here u.tree r (found_all (HasPlaces u.tree) vs i (value.Region r) (region_is (slice_get vs i) r e) h)).0

calls_here : (u : State) (cs : List CallOut) → All (λ (c : CallOut). All (HasPlaces u.tree) c.args) cs → Each (λ (c : CallOut). AreHere u c.args) cs
calls_here u [] h = tt
calls_here u (c ∷ cs) h = (args_here u c.args (All-head (λ (c : CallOut). All (HasPlaces u.tree) c.args) c cs h), calls_here u cs (All-tail (λ (c : CallOut). All (HasPlaces u.tree) c.args) c cs h))

each_of : {A : Type 0} (P Q : A → Type 0) → ((a : A) → P a → Q a) → (xs : List A) → Each P xs → Each Q xs
each_of P Q f [] h = tt
each_of P Q f (x ∷ xs) h = (f x h.0, each_of P Q f xs h.1)

module _ (g : Program) (job : Job) (is : IsSoundJob g job) (log : List CallOut) (s : State) (b : Board (regent_ground (spaces_of job.code))) (h : ShowsBoard job s b) (fits : StateFits g log s) (whole : AreWhole s.operations) (k : ℕ) where
  known : IsKnown s
  known = shown_is_known job s b h

  module _ (c : Claim) (before : Before) (act : (operation_at s k).activity ≡ activity.Out c before) where
    abbrev ps : List Part
    ps = (segment before).parts

    abbrev said : List Said
    said = also_said (length (operation_at s k).children) (segment before).text (operation_at s k).said

    abbrev back : State
    back = parts_given (behind_of s k ps said (segment before).frame) k

    inside : k < length s.operations
    inside = within g job is log s known fits k c before act

    back_row : operation_at back k ≡ record (left_of (operation_at s k) ps said (segment before).frame) { parts = [] }
    back_row =
        let now = behind_of s k ps said (segment before).frame in
        row_there s back k (record (left_of (operation_at s k) ps said (segment before).frame) { parts = [] }) inside
        (row_again s now k (left_of (operation_at s k) ps said (segment before).frame) inside refl (λ q. record q { parts = [] }))

    columns_are : (r : ℕ) → is_live back.map r ≡ true → length (columns_of back.map r) ≡ count_at g (space_at back.roots r)
    columns_are r e =
        let qs = (operation_at (behind_of s k ps said (segment before).frame) k).parts in
        let held = h.held r (sym (parts_live qs s.map r) ∙ e) in
        fields_same (with_parts qs s.map) s.map r (parts_shapes qs s.map r)
        ∙ sym (length-map (columns_of s.map r) (λ (z : Column). z.kind)) ∙ ap length held.kinds ∙ ap (λ (z : Code). length (kinds_of z (space_at s.roots r))) is.code

    still_live : (vs : List Value) → AreLive s.map vs → AreLive back.map vs
    still_live vs l i r e = parts_live (operation_at (behind_of s k ps said (segment before).frame) k).parts s.map r.root.0 ∙ l i r e

    all_calls : (f : Frame) → (segment before).frame ≡ Some f → (cs : List CallOut) → (segment before).ends ≡ yield.Calls cs →
        length (frames_before g.code job.turns back (operation_at back k) cs) ≡ length cs
    all_calls f goes cs e =
        let start : Going g log s k (operation_at s k) = going g job is log s known fits k c before act in
        let o = out g job is log s known fits k c before act in
        let like = is_like g job is log s known fits k c before act f goes in
        let frame : (operation_at back k).frame ≡ f = ap (λ (q : Operation). q.frame) back_row ∙ ap (frame_left (operation_at s k).frame) goes in
        let required : requirements_of back.tree (operation_at back k).frame.needs.items ≡ claims g start.world start.task =
        ap (λ (q : Frame). requirements_of s.tree q.needs.items) frame ∙ ap (λ (q : Needs). requirements_of s.tree q.items) like.0 ∙ start.required in
        let well : Each (CallsWell g start.world start.task) cs =
        children_are_within g start.world start.task (operation_at s k).frame.task before (is.sound.tasks (operation_at s k).frame.task start.task start.there) o.fits cs e in
        all_opened g job.turns back (operation_at back k) cs
        (all_issued g is.sound job.turns back (operation_at back k) start.world start.task required (λ r q. (start.roots r q).1) columns_are cs well
        (out_calls job s b h k c before act cs e)
        (calls_here back cs (subst (YieldHas (HasPlaces s.tree)) e (out_places job s b h k c before act).yields))
        (each_of (λ (q : CallOut). AreLive s.map q.args) (λ (q : CallOut). AreLive back.map q.args) (λ q l. still_live q.args l) cs (out_live job s b h k c before act cs e)))

    all_parted : (r : RegionValue) (sets : List (List ℕ)) (flag : Bool) → (segment before).ends ≡ yield.Make (made.Partition r sets flag) →
        is_here s.tree r && is_sound (set_at s.tree r.node.0) sets flag ≡ true
    all_parted r sets flag e =
        let start : Going g log s k (operation_at s k) = going g job is log s known fits k c before act in
        let o = out g job is log s known fits k c before act in
        let placed = placed_is_here s.tree r (subst (YieldHas (HasPlaces s.tree)) e (out_places job s b h k c before act).yields) in
        and_from (is_here s.tree r) (is_sound (set_at s.tree r.node.0) sets flag) placed.0
        (ap (λ xs. is_sound xs sets flag) placed.1
        ∙ partitions_are_sound g start.world start.task (operation_at s k).frame.task before (is.sound.tasks (operation_at s k).frame.task start.task start.there) o.fits r sets flag e)

    given_whole : AreWhole (given_after g.code job.turns s k (segment before)).operations
    given_whole =
        let start : Going g log s k (operation_at s k) = going g job is log s known fits k c before act in
        let o = out g job is log s known fits k c before act in
        followed_whole (yielded g.code job.turns (behind_of s k ps said (segment before).frame) k (segment before).ends) k
        (yields_whole g.code job.turns s k ps said whole (segment before).frame (segment before).ends
        (no_segment_breaks g start.world start.task (operation_at s k).frame.task before (is.sound.tasks (operation_at s k).frame.task start.task start.there) o.fits)
        (λ cs e. of_frame cs e (segment before).frame refl (after g job is log s known fits k c before act).1)
        all_parted)
      where
        of_frame : (cs : List CallOut) → (segment before).ends ≡ yield.Calls cs → (fo : Option Frame) → (segment before).frame ≡ fo →
            IsLeft g (going g job is log s known fits k c before act).world (going g job is log s known fits k c before act).task (operation_at s k).frame.task (segment before).ends (segment before).frame (segment before).parts →
            length (frames_before g.code job.turns back (operation_at back k) cs) ≡ length cs
        of_frame cs e (Some f) goes left = all_calls f goes cs e
        of_frame cs e None goes left = absurd (subst (λ y. IsLeft g (going g job is log s known fits k c before act).world (going g job is log s known fits k c before act).task (operation_at s k).frame.task y None (segment before).parts) e
            (subst (λ q. IsLeft g (going g job is log s known fits k c before act).world (going g job is log s known fits k c before act).task (operation_at s k).frame.task (segment before).ends q (segment before).parts) goes left))

  -- ---- each step

  abbrev o : Operation
  o = operation_at s k

  abbrev Whole : State → Type 0
  Whole u = AreWhole u.operations

  behind_is : (code : Code) (c : Claim) (fill : Option Fill) → IsWhole (activity_behind code s o c fill)
  behind_is code c None = tt
  behind_is code c (Some f) = of (f.moved == elements_of f.pieces)
    where
      of : (q : Bool) → IsWhole (cond q (activity.Out c (before_of code s o (Some f))) (activity.Filling c (Some f)))
      of true = tt
      of false = tt

  pub step_whole : (kind : StepKind) (seat : ℕ) (u : State) → step_of job s k seat kind ≡ Some u → Whole u
  step_whole Claiming seat u e = of (may_be_claimed s k) e
    where
      of : (q : Bool) → cond q (Some (claim_made s k seat)) None ≡ Some u → Whole u
      of false d = absurd (none-some u d)
      of true d = subst Whole (same_Some (claim_made s k seat) u d) (set_whole s.operations k (record o { activity = activity.Filling (claim_on s k seat) (fill_for s o o.wait) }) tt whole)
  step_whole Copy seat u e = of o.activity e
    where
      by_seat : (c : Claim) (fill : Option Fill) (q : Bool) → cond q (Some (doing s k (activity_behind job.code s o c (moved_on s fill)))) None ≡ Some u → Whole u
      by_seat c fill false d = absurd (none-some u d)
      by_seat c fill true d = subst Whole (same_Some (doing s k (activity_behind job.code s o c (moved_on s fill))) u d)
          (set_whole s.operations k (record o { activity = activity_behind job.code s o c (moved_on s fill) }) (behind_is job.code c (moved_on s fill)) whole)

      of : (a : Activity) → copied_in job.code s k seat a ≡ Some u → Whole u
      of (activity.Filling c fill) d = by_seat c fill (c.seat == seat) d
      of activity.Idle d = absurd (none-some u d)
      of (activity.Out c x) d = absurd (none-some u d)
      of (activity.Closing x) d = absurd (none-some u d)
  step_whole Back seat u e = of o.activity e
    where
      by_seat : (q : Bool) → cond q (Some (taken_back s k)) None ≡ Some u → Whole u
      by_seat false d = absurd (none-some u d)
      by_seat true d = subst Whole (same_Some (taken_back s k) u d) (set_whole s.operations k (record o { activity = activity.Idle }) tt whole)

      of : (a : Activity) → back_in s k seat a ≡ Some u → Whole u
      of (activity.Filling c fill) d = by_seat (c.seat == seat) d
      of (activity.Out c x) d = by_seat (c.seat == seat) d
      of activity.Idle d = absurd (none-some u d)
      of (activity.Closing x) d = absurd (none-some u d)
  step_whole Give seat u e = of o.activity refl e
    where
      by_seat : (c : Claim) (x : Before) (q : Bool) → o.activity ≡ activity.Out c x → cond q (Some (given_after job.code job.turns s k (segment x))) None ≡ Some u → Whole u
      by_seat c x false act d = absurd (none-some u d)
      by_seat c x true act d = subst Whole (same_Some (given_after job.code job.turns s k (segment x)) u d)
          (subst (λ (z : Code). Whole (given_after z job.turns s k (segment x))) (sym is.code) (given_whole c x act))

      of : (a : Activity) → o.activity ≡ a → given_in job.code job.turns s k seat a ≡ Some u → Whole u
      of (activity.Out c x) act d = by_seat c x (c.seat == seat) act d
      of activity.Idle act d = absurd (none-some u d)
      of (activity.Filling c fill) act d = absurd (none-some u d)
      of (activity.Closing x) act d = absurd (none-some u d)
