-- What operations hold stays apart from what their unfinished children need, step by step.
use Rattle.std.proofs.Common.{◌≡◌, ◌<◌, ◌++◌, ◌∷◌, ◌∙◌, ◌==◌, ⊎_elim, ℕ, Bool, List, None, Option, Some, [], ap, arith, cond, false, length, map, refl, subst, sym, true}
use Rattle.std.specs.Prelude.{All}
use Rattle.std.specs.List.{Contains, flat_map}
use Rattle.std.proofs.lemmas.Bool.{cases_Bool, false≢true}
use Rattle.std.proofs.lemmas.List.{get_or-set_same}
use Rattle.std.proofs.lemmas.List.Elements.{All-head, All-tail, All-weaker}
use Rattle.std.proofs.lemmas.Option.{none-some, same_Some}
use Rattle.region_finder.specs.Listings.{Listed}
use Rattle.region_tree.specs.Needs.{IsNeed, requirements_of}
use Rattle.region_tree.specs.Pieces.{Held}
use Rattle.region_tree.specs.Requirements.{interfere}
use Rattle.region_tree.specs.Trees.{RegionTree}
use Rattle.region_tree.specs.declared.needs.Need.{Need}
use Rattle.region_tree.specs.declared.piece.Part.{Part}
use Rattle.region_tree.specs.declared.tree.OpNumber.{OpNumber}
use Rattle.logical_map.specs.Fills.{Filling, elements_of}
use Rattle.dependence_graph.specs.Entries.{Knot}
use Rattle.dependence_graph.specs.Knots.{is_idle, knot_at, no_knot}
use Rattle.dependence_graph.specs.declared.stage.Stage.{Stage as Knotted}
use Rattle.dependence_graph.specs.declared.stage.Stage.TheVariants as knot
use Rattle.task_code.specs.declared.job.Job.{Job}
use Rattle.machine_terms.specs.declared.frame.Before.{Before}
use Rattle.machine_terms.specs.Segments.{segment}
use Rattle.machine_terms.proofs.Kept.{stop_fixed}
use Rattle.machine_terms.proofs.KeptParts.{bare, bare_pieces}
use Rattle.run_journal.specs.declared.entry.StepKind.{StepKind}
use Rattle.run_journal.specs.declared.entry.StepKind.TheVariants.{Back, Claim, Copy, Give}
use Rattle.board_rules.specs.Ground.{Ground}
use Rattle.board_rules.specs.NumberedBoards.{Board}
use Rattle.regent_boards.specs.RegentMachine.{regent_ground}
use Rattle.code_boards.specs.Views.{spaces_of}
use Rattle.board_terms.specs.declared.claim.Claim.{Claim as SeatClaim}
use Rattle.board_terms.specs.declared.operation.Activity.{Activity}
use Rattle.board_terms.specs.declared.operation.Activity.TheVariants as activity
use Rattle.board_terms.specs.declared.operation.Operation.{Operation}
use Rattle.board_terms.specs.declared.operation.Wait.{Wait}
use Rattle.board_terms.specs.declared.operation.Wait.TheVariants as wait
use Rattle.board_terms.specs.Claims.{activity_behind, back_in, before_of, claim_made, claim_on, copied_in, fill_for, moved_on, taken_back}
use Rattle.board_terms.specs.Gives.{given_after, given_in}
use Rattle.board_terms.specs.Replays.{step_of}
use Rattle.board_terms.specs.Stages.{by_activity, by_wait, is_closing, is_over, may_be_claimed, stage_at, stage_of}
use Rattle.board_terms.specs.States.{State, doing, no_operation, operation_at}
use Rattle.board_trees.specs.Shows.{ShowsBoard}
use Rattle.board_trees.proofs.Kept.{by_number}
use Rattle.claimed_trees.proofs.Back.{IsClaimed, claimed_within, has_begun}
use Rattle.journal_progress.specs.Parts.{held_for, held_in, parts_held, parts_with}
use Rattle.journal_progress.proofs.Given.{give_stays}
use Rattle.journal_progress.proofs.Kept.{IsFrom, Kept, PointsStay, is_past, others_set, over_is, points_itself, waits_itself, waits_set}
use Rattle.journal_progress.proofs.Places.{Placed, issued_child, listed_placed, placed}
use Rattle.journal_progress.proofs.Waited.{idle_is, there as waited_there, within as waited_within}

-- ---- parts that a segment leaves are held as before

held_bare : (root field : ℕ) (hs : List Held) → map (held_for root field) (bare_pieces hs) ≡ map (held_for root field) hs
held_bare root field [] = refl
held_bare root field (x ∷ hs) = ap (λ rs. held_for root field x ∷ rs) (held_bare root field hs)

all_bare : (qs : List Part) → flat_map held_in (bare qs) ≡ flat_map held_in qs
all_bare [] = refl
all_bare (q ∷ qs) = λ i. held_bare q.root.0 q.field q.pieces i ++ all_bare qs i

segment_holds : (b : Before) → flat_map held_in (segment b).parts ≡ flat_map held_in b.parts
segment_holds b = sym (all_bare (segment b).parts) ∙ ap (flat_map held_in) (stop_fixed b).parts ∙ all_bare b.parts

-- ---- needs of regions that are there

required_still : (t v : RegionTree) → PointsStay t v → (ns : List Need) → All (λ (n : Need). n.node.0 < length t.nodes) ns → requirements_of t ns ≡ requirements_of v ns
required_still t v stay [] h = refl
required_still t v stay (n ∷ ns) h =
    let P : Need → Type 0 = λ m. m.node.0 < length t.nodes in
    let e = stay.same n.node.0 (All-head P n ns h) in
    λ i. record { root = n.root.0; points = e i; field = n.field; mode = n.mode } ∷ required_still t v stay ns (All-tail P n ns h) i

pub no_child : (o : OpNumber) → Contains [] o → ⊥
no_child o c = omega (arith, c.1)

idle_unpast : (kn : Knotted) → is_idle kn ≡ true → is_past kn ≡ false
idle_unpast knot.Waiting e = refl
idle_unpast knot.Begun e = refl
idle_unpast knot.Parked e = refl
idle_unpast knot.Stopped e = refl
idle_unpast knot.Done e = absurd (false≢true e)
idle_unpast knot.Failed e = absurd (false≢true e)
idle_unpast knot.Dropped e = absurd (false≢true e)

pub claimed_unclosing : (a : Activity) → IsClaimed a → is_closing (by_activity a) ≡ false
claimed_unclosing activity.Idle h = absurd h
claimed_unclosing (activity.Filling c f) h = refl
claimed_unclosing (activity.Out c b) h = refl
claimed_unclosing (activity.Closing e) h = absurd h

wait_unclosing : (w : Wait) → is_closing (by_wait w) ≡ false
wait_unclosing wait.Beginning = refl
wait_unclosing wait.Nothing = refl
wait_unclosing (wait.Part root field) = refl
wait_unclosing (wait.Child n) = refl

-- what an operation holds is apart from what its children need that aren't over
abbrev pub HoldsApart : State → ℕ → Type 0
HoldsApart s k = (x : Listed) → Contains s.waits.listing x → Contains (operation_at s k).children x.op → is_over (stage_at s x.op.0) ≡ false →
    interfere (flat_map held_in (parts_held (operation_at s k))) (requirements_of s.tree x.issued) ≡ false

abbrev pub AllHoldApart : State → Type 0
AllHoldApart s = (j : ℕ) → HoldsApart s j

-- those that aren't closing do
abbrev pub OpenHoldApart : State → Type 0
OpenHoldApart s = (j : ℕ) → is_closing (stage_at s j) ≡ false → HoldsApart s j

module _ (job : Job) (s : State) (b : Board (regent_ground (spaces_of job.code))) (h : ShowsBoard job s b) (k : ℕ) (all : AllHoldApart s) where
  abbrev G : Ground
  G = regent_ground (spaces_of job.code)

  -- ---- one step, on an operation that isn't over

  module _ (u : State) (going : is_over (stage_at s k) ≡ false) (kept : Kept s k u) where
    was_open : (c : ℕ) → c < length s.waits.knots → is_over (stage_at u c) ≡ false → is_over (stage_at s c) ≡ false
    was_open = by_number k (λ c. c < length s.waits.knots → is_over (stage_at u c) ≡ false → is_over (stage_at s c) ≡ false) (λ l e. going)
        (λ c n l e. ⊎_elim
        (λ t. absurd (false≢true (sym e ∙ over_is (knot_at u.waits.knots c).stage (operation_at u c).wait (operation_at u c).activity
        ∙ kept.2.past c n l (sym (over_is (knot_at s.waits.knots c).stage (operation_at s c).wait (operation_at s c).activity) ∙ t))))
        (λ f. f) (cases_Bool (is_over (stage_at s c))))

    module _ (j : ℕ) (children : (operation_at u j).children ≡ (operation_at s j).children)
        (held : flat_map held_in (parts_held (operation_at u j)) ≡ flat_map held_in (parts_held (operation_at s j))) where
      pub stays_apart : HoldsApart u j
      stays_apart x listed child still =
          let was_child : Contains (operation_at s j).children x.op = subst (λ ks. Contains ks x.op) children child in
          let issued = issued_child job s b h j x.op was_child in
          let below = issued.1 in
          let knots = h.knots in
          let from : IsFrom s.waits.listing x = ⊎_elim (λ c. c) (λ l. absurd (omega (arith, l, below, knots))) (kept.2.entries x listed) in
          let unfinished = was_open x.op.0 (omega (arith, below, knots)) still in
          ap (λ ns. interfere (flat_map held_in (parts_held (operation_at u j))) (requirements_of u.tree ns)) from.issued
          ∙ of_entry from.one from.there (subst (λ (o : OpNumber). Contains (operation_at s j).children o) from.op_is was_child)
          (subst (λ (o : OpNumber). is_over (stage_at s o.0) ≡ false) from.op_is unfinished)
        where
          of_entry : (x : Listed) → Contains s.waits.listing x → Contains (operation_at s j).children x.op → is_over (stage_at s x.op.0) ≡ false →
              interfere (flat_map held_in (parts_held (operation_at u j))) (requirements_of u.tree x.issued) ≡ false
          of_entry x was_listed was_child unfinished =
              let issued = issued_child job s b h j x.op was_child in
              let later = issued.0 in
              let at : Placed job s b h x.op.0 = placed job s b h x.op.0 issued.1 in
              let are = listed_placed job s b h x was_listed unfinished at (λ e. omega (arith, e, later)) in
              let same : requirements_of s.tree x.issued ≡ requirements_of u.tree x.issued = required_still s.tree u.tree kept.1 x.issued
              (All-weaker (IsNeed s.tree) (λ (n : Need). n.node.0 < length s.tree.nodes) (λ n is. is.region.there) x.issued are) in
              (λ i. interfere (held i) (sym same i)) ∙ all j x was_listed was_child unfinished

    others_apart : (j : ℕ) → ¬ (j ≡ k) → HoldsApart u j
    others_apart j n = ⊎_elim
        (λ e. stays_apart j (ap (λ (o : Operation). o.children) e) (ap (λ (o : Operation). flat_map held_in (parts_held o)) e))
        (λ e x listed child still. absurd (no_child x.op (subst (λ ks. Contains ks x.op) e child))) (kept.0 j n)

    with_own : HoldsApart u k → AllHoldApart u
    with_own own = by_number k (HoldsApart u) own others_apart

  -- ---- a claim

  module _ (seat : ℕ) (ready : may_be_claimed s k ≡ true) where
    abbrev made : State
    made = claim_made s k seat

    abbrev filled : Operation
    filled = record (operation_at s k) { activity = activity.Filling (claim_on s k seat) (fill_for s (operation_at s k) (operation_at s k).wait) }

    abbrev begun_knot : Knot
    begun_knot = record { parent = (knot_at s.waits.knots k).parent; on = (knot_at s.waits.knots k).on; stage = knot.Begun }

    claim_goes : is_over (stage_at s k) ≡ false
    claim_goes = over_is (knot_at s.waits.knots k).stage (operation_at s k).wait (operation_at s k).activity
        ∙ idle_unpast (knot_at s.waits.knots k).stage (idle_is job s b h k seat ready)

    claim_keeps : Kept s k made
    claim_keeps = (others_set s.operations k filled, points_itself s.tree, waits_set s.waits k begun_knot)

    claim_open : is_closing (stage_at made k) ≡ false
    claim_open =
        (λ i. is_closing (stage_of (get_or-set_same s.waits.knots k begun_knot no_knot (waited_there job s b h k seat ready) i).stage
        (operation_at made k).wait (get_or-set_same s.operations k filled no_operation (waited_within job s b h k seat ready) i).activity))

    claim_apart : OpenHoldApart made → AllHoldApart made
    claim_apart opens = with_own made claim_goes claim_keeps (opens k claim_open)

  -- ---- one that is claimed

  module _ (claim : IsClaimed (operation_at s k).activity) where
    within : k < length s.operations
    within = claimed_within s k claim

    there : k < length s.waits.knots
    there = subst (λ n. k < n) (sym h.knots) within

    begun : (knot_at s.waits.knots k).stage ≡ knot.Begun
    begun = let at : Placed job s b h k = placed job s b h k within in
        has_begun job s k claim h.who b.ways at.there.at at.there.earlier at.there.above at.there.node at.there.shows

    claimed_goes : is_over (stage_at s k) ≡ false
    claimed_goes = over_is (knot_at s.waits.knots k).stage (operation_at s k).wait (operation_at s k).activity ∙ ap is_past begun

    module _ (a : Activity) (busy : IsClaimed a) where
      abbrev does : Operation
      does = record (operation_at s k) { activity = a }

      copy_open : is_closing (stage_at (doing s k a) k) ≡ false
      copy_open = (λ i. is_closing (stage_of (begun i) (operation_at (doing s k a) k).wait (get_or-set_same s.operations k does no_operation within i).activity))
          ∙ claimed_unclosing a busy

      copy_apart : OpenHoldApart (doing s k a) → AllHoldApart (doing s k a)
      copy_apart opens = with_own (doing s k a) claimed_goes (others_set s.operations k does, points_itself s.tree, waits_itself k s.waits) (opens k copy_open)

    abbrev parked_knot : Knot
    parked_knot = record { parent = (knot_at s.waits.knots k).parent; on = []; stage = knot.Parked }

    back_open : is_closing (stage_at (taken_back s k) k) ≡ false
    back_open = ap (λ (x : Knot). is_closing (stage_of x.stage (operation_at (taken_back s k) k).wait (operation_at (taken_back s k) k).activity))
        (get_or-set_same s.waits.knots k parked_knot no_knot there) ∙ wait_unclosing (operation_at (taken_back s k) k).wait

    back_apart : OpenHoldApart (taken_back s k) → AllHoldApart (taken_back s k)
    back_apart opens = with_own (taken_back s k) claimed_goes
        (others_set s.operations k (record (operation_at s k) { activity = activity.Idle }), points_itself s.tree, waits_set s.waits k parked_knot) (opens k back_open)

    give_apart : (c : SeatClaim) (before : Before) → (operation_at s k).activity ≡ activity.Out c before → AllHoldApart (given_after job.code job.turns s k (segment before))
    give_apart c before is =
        let u = given_after job.code job.turns s k (segment before) in
        let stays = give_stays job s k (segment before) in
        with_own u claimed_goes stays.0 (⊎_elim
        (λ e x listed child still. ap (λ qs. interfere (flat_map held_in qs) (requirements_of u.tree x.issued)) e)
        (λ e. stays_apart u claimed_goes stays.0 k e.1
        (ap (flat_map held_in) e.0 ∙ segment_holds before ∙ ap (λ a. flat_map held_in (parts_with (operation_at s k).parts a)) (sym is))) stays.1)

  -- ---- each kind

  module _ (seat : ℕ) where
    by_claim : (r : Bool) → may_be_claimed s k ≡ r → (u : State) → cond r (Some (claim_made s k seat)) None ≡ Some u → OpenHoldApart u → AllHoldApart u
    by_claim true e u q = subst (λ v. OpenHoldApart v → AllHoldApart v) (same_Some (claim_made s k seat) u q) (claim_apart seat e)
    by_claim false e u q = absurd (none-some u q)

    behind_claimed : (t : State) (o : Operation) (c : SeatClaim) (f : Option Filling) → IsClaimed (activity_behind job.code t o c f)
    behind_claimed t o c None = tt
    behind_claimed t o c (Some f) = chosen (f.moved == elements_of f.pieces)
      where
        chosen : (q : Bool) → IsClaimed (cond q (activity.Out c (before_of job.code t o (Some f))) (activity.Filling c (Some f)))
        chosen true = tt
        chosen false = tt

    by_copy : (a : Activity) → (operation_at s k).activity ≡ a → (u : State) → copied_in job.code s k seat a ≡ Some u → OpenHoldApart u → AllHoldApart u
    by_copy activity.Idle e u q = absurd (none-some u q)
    by_copy (activity.Out c x) e u q = absurd (none-some u q)
    by_copy (activity.Closing x) e u q = absurd (none-some u q)
    by_copy (activity.Filling c f) e u q = chosen (c.seat == seat) q
      where
        chosen : (x : Bool) → cond x (Some (doing s k (activity_behind job.code s (operation_at s k) c (moved_on s f)))) None ≡ Some u → OpenHoldApart u → AllHoldApart u
        chosen true r = subst (λ v. OpenHoldApart v → AllHoldApart v) (same_Some (doing s k (activity_behind job.code s (operation_at s k) c (moved_on s f))) u r)
            (copy_apart (subst IsClaimed (sym e) tt) (activity_behind job.code s (operation_at s k) c (moved_on s f)) (behind_claimed s (operation_at s k) c (moved_on s f)))
        chosen false r = absurd (none-some u r)

    by_back : (a : Activity) → (operation_at s k).activity ≡ a → (u : State) → back_in s k seat a ≡ Some u → OpenHoldApart u → AllHoldApart u
    by_back a e u = by_kind a e
      where
        chosen : (x : Bool) → IsClaimed (operation_at s k).activity → cond x (Some (taken_back s k)) None ≡ Some u → OpenHoldApart u → AllHoldApart u
        chosen true c r = subst (λ v. OpenHoldApart v → AllHoldApart v) (same_Some (taken_back s k) u r) (back_apart c)
        chosen false c r = absurd (none-some u r)

        by_kind : (a : Activity) → (operation_at s k).activity ≡ a → back_in s k seat a ≡ Some u → OpenHoldApart u → AllHoldApart u
        by_kind activity.Idle e q = absurd (none-some u q)
        by_kind (activity.Closing x) e q = absurd (none-some u q)
        by_kind (activity.Filling c f) e q = chosen (c.seat == seat) (subst IsClaimed (sym e) tt) q
        by_kind (activity.Out c x) e q = chosen (c.seat == seat) (subst IsClaimed (sym e) tt) q

    by_give : (a : Activity) → (operation_at s k).activity ≡ a → (u : State) → given_in job.code job.turns s k seat a ≡ Some u → AllHoldApart u
    by_give activity.Idle e u q = absurd (none-some u q)
    by_give (activity.Filling c f) e u q = absurd (none-some u q)
    by_give (activity.Closing x) e u q = absurd (none-some u q)
    by_give (activity.Out c before) e u q = chosen (c.seat == seat) q
      where
        chosen : (x : Bool) → cond x (Some (given_after job.code job.turns s k (segment before))) None ≡ Some u → AllHoldApart u
        chosen true r = subst AllHoldApart (same_Some (given_after job.code job.turns s k (segment before)) u r) (give_apart (subst IsClaimed (sym e) tt) c before e)
        chosen false r = absurd (none-some u r)

    -- whatever step leads from where all hold apart to where all do that aren't closing, all do there
    pub step_apart : (kind : StepKind) (u : State) → step_of job s k seat kind ≡ Some u → OpenHoldApart u → AllHoldApart u
    step_apart Claim u q opens = by_claim (may_be_claimed s k) refl u q opens
    step_apart Copy u q opens = by_copy (operation_at s k).activity refl u q opens
    step_apart Give u q opens = by_give (operation_at s k).activity refl u q
    step_apart Back u q opens = by_back (operation_at s k).activity refl u q opens
