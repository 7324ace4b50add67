-- What a journal leads to: what operations hold is apart from what their unfinished children need, also of roots that these made.
use Rattle.std.proofs.Common.{◌≡◌, ◌<◌, ◌⊎◌, ◌++◌, ◌∷◌, ◌∙◌, ◌==◌, ⊎_elim, ℕ, Bool, List, None, Option, Some, [], ap, arith, cond, false, inl, inr, map, refl, subst, sym, true}
use Rattle.std.specs.Prelude.{All, slice_get}
use Rattle.std.specs.List.{Contains, flat_map}
use Rattle.std.proofs.lemmas.List.{get_or-set_same, map-append}
use Rattle.std.proofs.lemmas.List.Elements.{All-append, All-cons, All-head, All-nil, All-tail}
use Rattle.std.proofs.lemmas.Option.{none-some, same_Some}
use Rattle.region_finder.specs.Listings.{Listed}
use Rattle.region_tree.specs.Needs.{requirement_of, requirements_of}
use Rattle.region_tree.specs.Pieces.{Held}
use Rattle.region_tree.specs.Requirements.{Requirement, interfere}
use Rattle.region_tree.specs.declared.piece.Part.{Part}
use Rattle.region_tree.specs.declared.tree.OpNumber.{OpNumber}
use Rattle.region_tree.specs.declared.tree.RootId.{RootId}
use Rattle.logical_map.specs.Fills.{Filling, elements_of}
use Rattle.dependence_graph.specs.Entries.{Knot}
use Rattle.dependence_graph.specs.Knots.{knot_at, no_knot}
use Rattle.dependence_graph.specs.declared.stage.Stage.TheVariants as knot
use Rattle.task_code.specs.declared.job.Job.{Job}
use Rattle.machine_terms.specs.Segments.{segment}
use Rattle.run_journal.specs.declared.entry.Entry.{Entry}
use Rattle.run_journal.specs.declared.entry.StepKind.{StepKind}
use Rattle.run_journal.specs.declared.entry.StepKind.TheVariants.{Back, Claim, Copy, Give}
use Rattle.board_rules.specs.NumberedBoards.{Board}
use Rattle.regent_boards.specs.RegentMachine.{regent_ground}
use Rattle.code_boards.specs.Views.{spaces_of}
use Rattle.board_terms.specs.declared.claim.Claim.{Claim as SeatClaim}
use Rattle.board_terms.specs.declared.operation.Activity.{Activity}
use Rattle.board_terms.specs.declared.operation.Activity.TheVariants as activity
use Rattle.board_terms.specs.declared.operation.Operation.{Operation}
use Rattle.board_terms.specs.declared.operation.Wait.{Wait}
use Rattle.board_terms.specs.declared.operation.Wait.TheVariants as wait
use Rattle.board_terms.specs.Claims.{activity_behind, back_in, before_of, claim_made, claim_on, copied_in, fill_for, moved_on, requirements_at, taken_back}
use Rattle.board_terms.specs.Gives.{given_after, given_in}
use Rattle.board_terms.specs.Replays.{replay, step_of, stepped}
use Rattle.board_terms.specs.Stages.{by_activity, by_wait, is_over, may_be_claimed, stage_at, stage_of}
use Rattle.board_terms.specs.States.{State, doing, no_operation, operation_at}
use Rattle.board_trees.specs.Shows.{ShowsBoard}
use Rattle.changed_trees.proofs.Interfere.{interfere_swap}
use Rattle.claimed_trees.proofs.Back.{IsClaimed, claimed_within, has_begun}
use Rattle.journal_progress.specs.Laws.{IsOfOwn, is_working}
use Rattle.journal_progress.specs.Parts.{HeldPartsAreApart, HeldPartsAreApartNow, held_for, held_in, parts_held, parts_with}
use Rattle.journal_progress.proofs.Given.{give_stays}
use Rattle.journal_progress.proofs.Journals.{held_as_issued, is_pictured, one_more, start_childless, unfinished_are_listed, void_children, void_refuses}
use Rattle.journal_progress.proofs.NeedsLaws.{all_grown, along, no_needs, over_still, own_required}
use Rattle.journal_progress.proofs.Own.{more_apart, none_meet, owner}
use Rattle.journal_progress.proofs.OwnHeld.{AllFromAbove, HoldsFromAbove, IsFromAbove, open_from_above, roots_in, segment_roots, still_above, with_own}
use Rattle.journal_progress.proofs.Places.{Placed, is_there, issued_child, placed}
use Rattle.journal_progress.proofs.Steps.{no_child}
use Rattle.journal_progress.proofs.Stepped.{Stepped, step_leaves}
use Rattle.journal_progress.proofs.Waited.{there as waited_there, within as waited_within}

claimed_working : (a : Activity) → IsClaimed a → is_working (by_activity a) ≡ true
claimed_working activity.Idle c = absurd c
claimed_working (activity.Filling c f) q = refl
claimed_working (activity.Out c f) q = refl
claimed_working (activity.Closing e) q = absurd q

wait_working : (w : Wait) → is_working (by_wait w) ≡ true
wait_working wait.Beginning = refl
wait_working wait.Nothing = refl
wait_working (wait.Part root field) = refl
wait_working (wait.Child n) = refl

behind_claimed : (job : Job) (s : State) (o : Operation) (c : SeatClaim) (f : Option Filling) → IsClaimed (activity_behind job.code s o c f)
behind_claimed job s o c None = tt
behind_claimed job s o c (Some f) = chosen (f.moved == elements_of f.pieces)
  where
    chosen : (q : Bool) → IsClaimed (cond q (activity.Out c (before_of job.code s o (Some f))) (activity.Filling c (Some f)))
    chosen true = tt
    chosen false = tt

-- ---- one step

module _ (job : Job) (s : State) (b : Board (regent_ground (spaces_of job.code))) (h : ShowsBoard job s b) (k seat : ℕ) (all : AllFromAbove s) where
  abbrev o : Operation
  o = operation_at s k

  -- behind a step that isn't a give its own work goes on
  abbrev Opens : State → Type 0
  Opens u = is_working (stage_at u k) ≡ true → HoldsFromAbove u k

  by_claim : (u : State) → Opens u → (r : Bool) → may_be_claimed s k ≡ r → cond r (Some (claim_made s k seat)) None ≡ Some u → HoldsFromAbove u k
  by_claim u opens true e q = opens (subst (λ v. is_working (stage_at v k) ≡ true) (same_Some (claim_made s k seat) u q)
      (λ i. is_working (stage_of (get_or-set_same s.waits.knots k begun_knot no_knot (waited_there job s b h k seat e) i).stage
      (operation_at (claim_made s k seat) k).wait (get_or-set_same s.operations k filled no_operation (waited_within job s b h k seat e) i).activity)))
    where
      begun_knot : Knot
      begun_knot = record { parent = (knot_at s.waits.knots k).parent; on = (knot_at s.waits.knots k).on; stage = knot.Begun }

      filled : Operation
      filled = record o { activity = activity.Filling (claim_on s k seat) (fill_for s o o.wait) }
  by_claim u opens false e q = absurd (none-some u q)

  begun : IsClaimed o.activity → (knot_at s.waits.knots k).stage ≡ knot.Begun
  begun claim =
      let g : Placed job s b h k = placed job s b h k (claimed_within s k claim) in
      has_begun job s k claim h.who b.ways g.there.at g.there.earlier g.there.above g.there.node g.there.shows

  by_copy : (u : State) → Opens u → (a : Activity) → o.activity ≡ a → copied_in job.code s k seat a ≡ Some u → HoldsFromAbove u k
  by_copy u opens activity.Idle e q = absurd (none-some u q)
  by_copy u opens (activity.Out c x) e q = absurd (none-some u q)
  by_copy u opens (activity.Closing x) e q = absurd (none-some u q)
  by_copy u opens (activity.Filling c f) e q = chosen (c.seat == seat) q
    where
      chosen : (x : Bool) → cond x (Some (doing s k (activity_behind job.code s o c (moved_on s f)))) None ≡ Some u → HoldsFromAbove u k
      chosen true r =
          let claim = subst IsClaimed (sym e) tt in
          let a = activity_behind job.code s o c (moved_on s f) in
          opens (subst (λ v. is_working (stage_at v k) ≡ true) (same_Some (doing s k a) u r)
          ((λ i. is_working (stage_of (begun claim i) (operation_at (doing s k a) k).wait
          (get_or-set_same s.operations k (record o { activity = a }) no_operation (claimed_within s k claim) i).activity))
          ∙ claimed_working a (behind_claimed job s o c (moved_on s f))))
      chosen false r = absurd (none-some u r)

  by_back : (u : State) → Opens u → (a : Activity) → o.activity ≡ a → back_in s k seat a ≡ Some u → HoldsFromAbove u k
  by_back u opens a e = by_kind a e
    where
      chosen : (x : Bool) → IsClaimed o.activity → cond x (Some (taken_back s k)) None ≡ Some u → HoldsFromAbove u k
      chosen true claim r =
          let parked : Knot = record { parent = (knot_at s.waits.knots k).parent; on = []; stage = knot.Parked } in
          opens (subst (λ v. is_working (stage_at v k) ≡ true) (same_Some (taken_back s k) u r)
          (ap (λ (x : Knot). is_working (stage_of x.stage (operation_at (taken_back s k) k).wait (operation_at (taken_back s k) k).activity))
          (get_or-set_same s.waits.knots k parked no_knot (subst (λ n. k < n) (sym h.knots) (claimed_within s k claim)))
          ∙ wait_working (operation_at (taken_back s k) k).wait))
      chosen false claim r = absurd (none-some u r)

      by_kind : (a : Activity) → o.activity ≡ a → back_in s k seat a ≡ Some u → HoldsFromAbove u k
      by_kind activity.Idle e q = absurd (none-some u q)
      by_kind (activity.Closing x) e q = absurd (none-some u q)
      by_kind (activity.Filling c f) e q = chosen (c.seat == seat) (subst IsClaimed (sym e) tt) q
      by_kind (activity.Out c f) e q = chosen (c.seat == seat) (subst IsClaimed (sym e) tt) q

  -- behind a give it holds nothing, or parts of the roots of which it held some
  by_left : (v : State) → Stepped job s b h k v → (parts : List Part) → roots_in parts ≡ roots_in (parts_held o) →
      (parts_held (operation_at v k) ≡ []) ⊎ ((parts_held (operation_at v k) ≡ parts) × ((operation_at v k).children ≡ o.children)) → HoldsFromAbove v k
  by_left v step parts same (inl p) x child = subst (λ qs. All (IsFromAbove v k) (roots_in qs)) (sym p) (All-nil (IsFromAbove v k))
  by_left v step parts same (inr p) x child = subst (All (IsFromAbove v k)) (sym (ap roots_in p.0 ∙ same))
      (still_above job s b h k all v step k (roots_in (parts_held o)) (all k x (subst (λ ks. Contains ks x) p.1 child)))

  by_give : (u : State) → Stepped job s b h k u → (a : Activity) → o.activity ≡ a → given_in job.code job.turns s k seat a ≡ Some u → HoldsFromAbove u k
  by_give u step activity.Idle e q = absurd (none-some u q)
  by_give u step (activity.Filling c f) e q = absurd (none-some u q)
  by_give u step (activity.Closing x) e q = absurd (none-some u q)
  by_give u step (activity.Out c before) e q = chosen (c.seat == seat) q
    where
      roots_are : roots_in (segment before).parts ≡ roots_in (parts_held o)
      roots_are = segment_roots before ∙ ap (λ a. roots_in (parts_with o.parts a)) (sym e)

      chosen : (x : Bool) → cond x (Some (given_after job.code job.turns s k (segment before))) None ≡ Some u → HoldsFromAbove u k
      chosen true r = by_left u step (segment before).parts roots_are
          (subst (λ v. (parts_held (operation_at v k) ≡ []) ⊎ ((parts_held (operation_at v k) ≡ (segment before).parts) × ((operation_at v k).children ≡ o.children)))
          (same_Some (given_after job.code job.turns s k (segment before)) u r) (give_stays job s k (segment before)).1)
      chosen false r = absurd (none-some u r)

  pub step_from_above : (kind : StepKind) (u : State) → step_of job s k seat kind ≡ Some u → Opens u → AllFromAbove u
  step_from_above kind u q opens = with_own job s b h k all u (step_leaves job s b h k seat u kind q) (by_kind kind q)
    where
      by_kind : (kind : StepKind) → step_of job s k seat kind ≡ Some u → HoldsFromAbove u k
      by_kind Claim q = by_claim u opens (may_be_claimed s k) refl q
      by_kind Copy q = by_copy u opens o.activity refl q
      by_kind Give q = by_give u (step_leaves job s b h k seat u Give q) o.activity refl q
      by_kind Back q = by_back u opens o.activity refl q

-- ---- along a journal

module _ (job : Job) where
  open_there : (journal : List Entry) (s : State) → replay job journal ≡ Some s → (k : ℕ) → is_working (stage_at s k) ≡ true → HoldsFromAbove s k
  open_there journal s e k works x child = ⊎_elim
      (λ p. open_from_above job s p.1.board p.1.shows k (is_there job s p.1.board p.1.shows k (over_still s k works)) works x child)
      (λ v. absurd (void_children k x (subst (λ z. Contains (operation_at z k).children x) (sym v) child))) (is_pictured job journal s e)

  next : (journal : List Entry) (s : State) → replay job journal ≡ Some s → AllFromAbove s → (x : Entry) (u : State) → stepped job s x ≡ Some u → AllFromAbove u
  next journal s e all x u q = ⊎_elim
      (λ p. step_from_above job s p.1.board p.1.shows x.op.0 x.seat all x.kind u q (open_there (journal ++ x ∷ []) u (one_more job journal s e x u q) x.op.0))
      (λ v. absurd (none-some u (sym (ap (λ z. stepped job z x) (sym v) ∙ void_refuses job x.kind x.op.0 x.seat) ∙ q))) (is_pictured job journal s e)

  all_from_above : (journal : List Entry) (s : State) → replay job journal ≡ Some s → AllFromAbove s
  all_from_above = along job AllFromAbove next
      (λ k x child. absurd (no_child x (subst (λ ks. Contains ks x) (start_childless job (slice_get job.code.tasks job.code.start) k) child)))

-- ---- the law

module _ (P : RootId → Type 0) where
  abbrev OfRoot : Requirement → Type 0
  OfRoot a = (r : RootId) × P r × (a.root ≡ r.0)

  pieces_of : (root : RootId) (field : ℕ) (hs : List Held) → P root → All OfRoot (map (held_for root.0 field) hs)
  pieces_of root field [] p = All-nil OfRoot
  pieces_of root field (x ∷ hs) p = All-cons OfRoot (held_for root.0 field x) (map (held_for root.0 field) hs) (root, p, refl) (pieces_of root field hs p)

  held_of : (qs : List Part) → All P (roots_in qs) → All OfRoot (flat_map held_in qs)
  held_of [] h = All-nil OfRoot
  held_of (q ∷ qs) h = All-append OfRoot (held_in q) (flat_map held_in qs) (pieces_of q.root q.field q.pieces (All-head P q.root (roots_in qs) h)) (held_of qs (All-tail P q.root (roots_in qs) h))

module _ (job : Job) (journal : List Entry) (s : State) (e : replay job journal ≡ Some s) (k : ℕ) (x : Listed) (listed : Contains s.waits.listing x) (child : Contains (operation_at s k).children x.op)
    (still : is_over (stage_at s x.op.0) ≡ false) (more : List Requirement) (own : All (IsOfOwn s x.op.0) more) where
  abbrev held : List Requirement
  held = flat_map held_in (parts_held (operation_at s k))

  abbrev issued : List Requirement
  issued = requirements_of s.tree x.issued

  by_board : (b : Board (regent_ground (spaces_of job.code))) → ShowsBoard job s b → interfere held (issued ++ more) ≡ false
  by_board b h =
      let later = (issued_child job s b h k x.op child).0 in
      interfere_swap held (issued ++ more) ∙ more_apart issued more held
      (interfere_swap issued held ∙ held_as_issued job journal s e k x listed child still)
      (none_meet (IsOfOwn s x.op.0) (OfRoot (IsFromAbove s k))
      (λ a t of_own from same. let above = from.1.1 in
      absurd (omega (arith, later, above, owner job s b h x.op.0 from.1.0 of_own.0 from.0 of_own.1 from.1.2 (sym of_own.2 ∙ same ∙ from.2))))
      more held own (held_of (IsFromAbove s k) (parts_held (operation_at s k)) (all_from_above job journal s e k x.op child)))

pub held_parts_are_apart : HeldPartsAreApart
held_parts_are_apart job journal s e k x listed child still more own = ⊎_elim
    (λ p. by_board job journal s e k x listed child still more own p.1.board p.1.shows)
    (λ v. absurd (void_children k x.op (subst (λ z. Contains (operation_at z k).children x.op) (sym v) child))) (is_pictured job journal s e)

-- ---- and so from what they need now

module _ (job : Job) (journal : List Entry) (s : State) (e : replay job journal ≡ Some s) (k : ℕ) where
  from_entry : (x : Listed) → Contains s.waits.listing x → Contains (operation_at s k).children x.op → is_over (stage_at s x.op.0) ≡ false →
      interfere (flat_map held_in (parts_held (operation_at s k))) (requirements_at s (operation_at s x.op.0)) ≡ false
  from_entry x listed child still = ⊎_elim
      (λ f. ap (interfere (flat_map held_in (parts_held (operation_at s k)))) (ap (requirements_of s.tree) f.1 ∙ map-append (requirement_of s.tree) x.issued f.0)
      ∙ held_parts_are_apart job journal s e k x listed child still (requirements_of s.tree f.0) (own_required s x.op.0 f.0 f.2))
      (λ f. ap (λ ns. interfere (flat_map held_in (parts_held (operation_at s k))) (requirements_of s.tree ns)) f.1 ∙ no_needs (flat_map held_in (parts_held (operation_at s k))))
      (all_grown job journal s e x.op.0 x.issued (inr (x, listed, refl, refl)))

  later_child : (c : OpNumber) → Contains (operation_at s k).children c → k < c.0
  later_child c child = ⊎_elim (λ p. (issued_child job s p.1.board p.1.shows k c child).0)
      (λ v. absurd (void_children k c (subst (λ z. Contains (operation_at z k).children c) (sym v) child))) (is_pictured job journal s e)

pub held_parts_are_apart_now : HeldPartsAreApartNow
held_parts_are_apart_now job journal s e k c child still = ⊎_elim
    (λ z. let later = later_child job journal s e k c child in absurd (omega (arith, later, z)))
    (λ f. subst (λ (o : OpNumber). interfere (flat_map held_in (parts_held (operation_at s k))) (requirements_at s (operation_at s o.0)) ≡ false) f.2
    (from_entry job journal s e k f.0 f.1 (subst (λ (o : OpNumber). Contains (operation_at s k).children o) (sym f.2) child) (ap (λ (o : OpNumber). is_over (stage_at s o.0)) f.2 ∙ still)))
    (unfinished_are_listed job journal s e c.0 still)
