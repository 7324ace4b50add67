-- Siblings that show are in order: of two that interfere, the later one has ended only behind the earlier one, and fails with it.
use Rattle.std.proofs.Common.{◌≡◌, ◌<◌, ◌++◌, ◌∷◌, ◌∙◌, ◌&&◌, ◌||◌, ℕ, suc, List, Some, [], ap, append-nil, append_assoc, false, inl, inr, length, not, refl, subst, sym, true}
use Rattle.std.specs.Prelude.{All}
use Rattle.std.proofs.lemmas.Bool.{and_from, and_parts, false≢true, or_parts}
use Rattle.std.proofs.lemmas.List.Elements.{All-append, All-cons, All-head, All-nil, All-tail}
use Rattle.region_tree.specs.Requirements.{Requirement, interfere}
use Rattle.region_tree.specs.declared.tree.OpNumber.{OpNumber}
use Rattle.region_tree.specs.declared.tree.RootId.{RootId}
use Rattle.dependence_graph.specs.Entries.{Knot}
use Rattle.dependence_graph.specs.Knots.{has_failed, is_done, knot_at, some_failed, stage_at}
use Rattle.dependence_graph.specs.declared.stage.Stage.{Stage as Knotted}
use Rattle.dependence_graph.specs.declared.stage.Stage.TheVariants as knot
use Rattle.task_code.specs.declared.job.Job.{Job}
use Rattle.board_rules.specs.Boards.{Items, Operation as Node, Stage as BoardStage, child, child_op, closing, dropped, filling, first, idle, no_item, nothing, op, out, over, part, said}
use Rattle.board_rules.specs.Ground.{Ground}
use Rattle.regent_boards.specs.RegentMachine.{regent_ground}
use Rattle.code_boards.specs.Views.{spaces_of}
use Rattle.board_terms.specs.declared.extent.Extent.{Extent}
use Rattle.board_terms.specs.declared.operation.Operation.{Operation}
use Rattle.board_terms.specs.States.{State, operation_at}
use Rattle.board_trees.specs.Shows.{Shows, ShowsChildren, needs_issued, siblings}
use Rattle.board_trees.specs.Stages.{Stands, WaitsWell, was_begun}
use Rattle.board_trees.specs.Told.{AreOrdered, IsBehind, some_bad}
use Rattle.board_trees.specs.Waits.{Sibling, WaitsFor, all_clear, has_ended}
use Rattle.board_trees.proofs.Told.{clear_ended, done_unfailed, stage_there, waits_are_told}

-- ---- one behind others

module _ (knots : List Knot) (y : Sibling) where
  abbrev pub AllBefore : List Sibling → Type 0
  AllBefore xs = All (λ (x : Sibling). IsBehind knots x y) xs

  clear_before : (xs : List Sibling) → all_clear knots y.needs xs ≡ true → AllBefore xs
  clear_before [] e = All-nil (λ (x : Sibling). IsBehind knots x y)
  clear_before (x ∷ xs) e =
      let parts = and_parts (has_ended knots x.op || not (interfere x.needs y.needs)) (all_clear knots y.needs xs) e in
      All-cons (λ (x : Sibling). IsBehind knots x y) x xs
      (λ m. let ended = clear_ended (has_ended knots x.op) (interfere x.needs y.needs) parts.0 m in
      (λ t. ended, λ f. absurd (false≢true (sym (done_unfailed (stage_at knots x.op) ended) ∙ f))))
      (clear_before xs parts.1)

  good_before : has_ended knots y.op ≡ false → (xs : List Sibling) → some_bad knots y.needs xs ≡ false → AllBefore xs
  good_before n [] e = All-nil (λ (x : Sibling). IsBehind knots x y)
  good_before n (x ∷ xs) e =
      let parts = or_parts (has_failed (stage_at knots x.op) && interfere x.needs y.needs) (some_bad knots y.needs xs) e in
      All-cons (λ (x : Sibling). IsBehind knots x y) x xs
      (λ m. (
        λ t. absurd (false≢true (sym n ∙ t)),
        λ f. absurd (false≢true (sym parts.0 ∙ and_from (has_failed (stage_at knots x.op)) (interfere x.needs y.needs) f m)),
      ))
      (good_before n xs parts.1)

  failed_before : has_ended knots y.op ≡ false → has_failed (stage_at knots y.op) ≡ true → (xs : List Sibling) → AllBefore xs
  failed_before n b [] = All-nil (λ (x : Sibling). IsBehind knots x y)
  failed_before n b (x ∷ xs) = All-cons (λ (x : Sibling). IsBehind knots x y) x xs (λ m. (λ t. absurd (false≢true (sym n ∙ t)), λ f. b)) (failed_before n b xs)

  pub ordered_more : (xs : List Sibling) → AreOrdered knots xs → AllBefore xs → AreOrdered knots (xs ++ y ∷ [])
  ordered_more [] o b = (All-nil (IsBehind knots y), tt)
  ordered_more (x ∷ xs) o b = (
    All-append (IsBehind knots x) xs (y ∷ []) o.0
        (All-cons (IsBehind knots x) y [] (All-head (λ (x : Sibling). IsBehind knots x y) x xs b) (All-nil (IsBehind knots x))),
    ordered_more xs o.1 (All-tail (λ (x : Sibling). IsBehind knots x y) x xs b),
  )

module _ (job : Job) where
  abbrev G : Ground
  G = regent_ground (spaces_of job.code)

  -- ---- one that shows is behind those before it

  waiting_waits : (knots : List Knot) (s : State) (extents : List Extent) (who : ℕ → ℕ) (roots : List RootId) (kn : Knotted) (o : Operation) (D N : List Requirement) (earlier children : List Sibling)
      (on : List OpNumber) (st : BoardStage G) → Stands job.code extents who roots s kn o N st → WaitsWell job.code knots D N earlier children on st → kn ≡ knot.Waiting →
      WaitsFor knots D earlier on × (some_failed knots on ≡ false)
  waiting_waits knots s extents who roots kn o D N earlier children on (idle first) h w e = w
  waiting_waits knots s extents who roots kn o D N earlier children on (idle nothing) h w e = let q : knot.Waiting ≡ knot.Parked = sym e ∙ h.0 in absurd cc
  waiting_waits knots s extents who roots kn o D N earlier children on (idle (part x)) h w e = let q : knot.Waiting ≡ knot.Parked = sym e ∙ h.0 in absurd cc
  waiting_waits knots s extents who roots kn o D N earlier children on (idle (child x)) h w e = let q : knot.Waiting ≡ knot.Parked = sym e ∙ h.0 in absurd cc
  waiting_waits knots s extents who roots kn o D N earlier children on (filling x d l) h w e = let q : knot.Waiting ≡ knot.Begun = sym e ∙ h.0 in absurd cc
  waiting_waits knots s extents who roots kn o D N earlier children on (out x d) h w e = let q : knot.Waiting ≡ knot.Begun = sym e ∙ h.0 in absurd cc
  waiting_waits knots s extents who roots kn o D N earlier children on (closing x) (inl h) w e = let q : knot.Waiting ≡ knot.Begun = sym e ∙ h.0 in absurd cc
  waiting_waits knots s extents who roots kn o D N earlier children on (closing x) (inr h) w e = let q : knot.Waiting ≡ knot.Stopped = sym e ∙ h.0 in absurd cc
  waiting_waits knots s extents who roots kn o D N earlier children on (over x) (inl h) w e = let q : knot.Waiting ≡ knot.Done = sym e ∙ h.0 in absurd cc
  waiting_waits knots s extents who roots kn o D N earlier children on (over x) (inr h) w e = let q : knot.Waiting ≡ knot.Failed = sym e ∙ h.0 in absurd cc
  waiting_waits knots s extents who roots kn o D N earlier children on dropped h w e = let q : knot.Waiting ≡ knot.Dropped = sym e ∙ h.0 in absurd cc

  module _ (s : State) (who : ℕ → ℕ) (ways : List (List ℕ)) where
    abbrev ks : List Knot
    ks = s.waits.knots

    pub stage_before : (k : ℕ) (roots : List RootId) (o : Operation) (D N : List Requirement) (earlier children : List Sibling) (st : BoardStage G) → k < length ks →
        Stands job.code s.roots who roots s (knot_at ks k).stage o N st → WaitsWell job.code ks D N earlier children (knot_at ks k).on st →
        (was_begun (knot_at ks k).stage ≡ true → all_clear ks D earlier ≡ true) → AreOrdered ks earlier → AllBefore ks (record { op = k; needs = D }) earlier
    stage_before k roots o D N earlier children st l h w begun ordered = by_stage (knot_at ks k).stage refl
      where
        here : (kn : Knotted) → (knot_at ks k).stage ≡ kn → stage_at ks k ≡ Some kn
        here kn e = stage_there ks k l ∙ ap Some e

        by_stage : (kn : Knotted) → (knot_at ks k).stage ≡ kn → AllBefore ks (record { op = k; needs = D }) earlier
        by_stage knot.Waiting e =
            let q = waiting_waits ks s s.roots who roots (knot_at ks k).stage o D N earlier children (knot_at ks k).on st h w e in
            good_before ks (record { op = k; needs = D }) (ap is_done (here knot.Waiting e)) earlier (sym (waits_are_told ks D earlier (knot_at ks k).on ordered q.0).failed ∙ q.1)
        by_stage knot.Begun e = clear_before ks (record { op = k; needs = D }) earlier (begun (ap was_begun e))
        by_stage knot.Parked e = clear_before ks (record { op = k; needs = D }) earlier (begun (ap was_begun e))
        by_stage knot.Stopped e = clear_before ks (record { op = k; needs = D }) earlier (begun (ap was_begun e))
        by_stage knot.Done e = clear_before ks (record { op = k; needs = D }) earlier (begun (ap was_begun e))
        by_stage knot.Failed e = clear_before ks (record { op = k; needs = D }) earlier (begun (ap was_begun e))
        by_stage knot.Dropped e = failed_before ks (record { op = k; needs = D }) (ap is_done (here knot.Dropped e)) (ap has_failed (here knot.Dropped e)) earlier

    pub node_ordered : (way : List ℕ) (k : ℕ) (earlier : List Sibling) (above : List RootId) (n : Node G) → Shows job s who ways way k earlier above n → AreOrdered ks earlier →
        AreOrdered ks (earlier ++ record { op = k; needs = needs_issued job n } ∷ [])
    node_ordered way k earlier above (op D N i f ps st is) h o = ordered_more ks (record { op = k; needs = D }) earlier o
        (stage_before k (above ++ (operation_at s k).frame.own) (operation_at s k) D N earlier (siblings job (operation_at s k).children is) st h.0.knot h.0.stands h.0.waits h.0.begun o)

    pub children_ordered : (way : List ℕ) (j c : ℕ) (earlier : List Sibling) (roots : List RootId) (os : List OpNumber) (is : Items G) → ShowsChildren job s who ways way j c earlier roots os is →
        AreOrdered ks earlier → AreOrdered ks (earlier ++ siblings job os is)
    children_ordered way j c earlier roots os no_item h o = subst (AreOrdered ks) (sym (append-nil earlier)) o
    children_ordered way j c earlier roots os (said t is) h o = children_ordered way j c earlier roots os is h o
    children_ordered way j c earlier roots [] (child_op n is) h o = absurd h
    children_ordered way j c earlier roots (k ∷ os) (child_op n is) h o =
        let y : Sibling = record { op = k.0; needs = needs_issued job n } in
        subst (AreOrdered ks) (append_assoc earlier (y ∷ []) (siblings job os is))
        (children_ordered way j (suc c) (earlier ++ y ∷ []) roots os is h.2 (node_ordered (way ++ c ∷ []) k.0 earlier roots n h.1 o))
