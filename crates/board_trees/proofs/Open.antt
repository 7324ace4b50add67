-- What is waited for among siblings has ended in the tree where it has in the graph.
use Rattle.std.proofs.Common.{◌≡◌, ◌++◌, ◌∷◌, ◌∙◌, ◌&&◌, ◌||◌, ℕ, zero, suc, Bool, List, [], ap, cond, false, inl, inr, not, refl, sym, true}
use Rattle.std.specs.Prelude.{◌<◌, All, filter, is_some, length}
use Rattle.std.proofs.Math.Bool.{and_comm}
use Rattle.std.proofs.lemmas.List.Folds.{list_all-append}
use Rattle.region_tree.specs.Requirements.{Requirement, interfere, is_of}
use Rattle.region_tree.specs.declared.tree.OpNumber.{OpNumber}
use Rattle.region_tree.specs.declared.tree.RootId.{RootId}
use Rattle.dependence_graph.specs.Entries.{Knot}
use Rattle.dependence_graph.specs.Knots.{all_done}
use Rattle.task_code.specs.declared.job.Job.{Job}
use Rattle.board_rules.specs.Boards.{Items, Operation as Node, Stage as BoardStage, Wait as BoardWait, at_fault, by, child, child_op, closing, dropped, filling, first, idle, no_item, nothing, op, out, over, part, said, still_open, stopped}
use Rattle.board_rules.specs.Boards as tree
use Rattle.board_rules.specs.Ground.{Ground}
use Rattle.board_rules.specs.Running.{Machine}
use Rattle.regent_boards.specs.RegentMachine.{regent_ground}
use Rattle.code_boards.specs.Laws.{machine_of}
use Rattle.code_boards.specs.Views.{spaces_of}
use Rattle.board_terms.specs.States.{State}
use Rattle.board_trees.specs.Shows.{ShowsChildren, needs_issued, siblings}
use Rattle.board_trees.specs.Stages.{AwaitsOn}
use Rattle.board_trees.specs.Told.{AreOrdered}
use Rattle.board_trees.specs.Waits.{Sibling, WaitsForChild, all_clear, has_ended}
use Rattle.board_trees.proofs.Ordered.{children_ordered}
use Rattle.board_trees.proofs.Settled.{NodeTold, meets_of, node_told}
use Rattle.board_trees.proofs.Told.{and_on, waits_are_told}

module _ (job : Job) where
  abbrev G : Ground
  G = regent_ground (spaces_of job.code)

  -- the roots were made
  abbrev pub WereMade : State → List RootId → Type 0
  WereMade s roots = All (λ (r : RootId). r.0 < length s.roots) roots

  -- what is told of an operation on the way to it: that its earlier siblings are in order, whether all that it would wait
  -- for among them has ended, and that its callers' roots were made
  pub record IsTold (s : State) (earlier : List Sibling) (above : List RootId) (before : Bool) (n : Node G) : Type 0 where
    pub ordered : AreOrdered s.waits.knots earlier
    pub clear : before ≡ all_clear s.waits.knots (tree.needs_of G n) earlier
    pub made : WereMade s above

  -- of those that haven't ended these are the needs
  abbrev pub IsToldOpen : ℕ → List Knot → List Sibling → List (List Requirement) → List Requirement → Type 0
  IsToldOpen makings knots earlier Ns Q = not (tree.meets_any G (machine_of job makings) Ns Q) ≡ all_clear knots Q earlier

  module _ (s : State) (who : ℕ → ℕ) (ways : List (List ℕ)) (makings : ℕ) where
    abbrev M : Machine G
    M = machine_of job makings

    -- with one sibling more
    pub open_tells : (earlier : List Sibling) (Ns : List (List Requirement)) (k : ℕ) (n : Node G) → NodeTold job s who ways k n → (Q : List Requirement) →
        IsToldOpen makings s.waits.knots earlier Ns Q → IsToldOpen makings s.waits.knots (earlier ++ record { op = k; needs = needs_issued job n } ∷ []) (still_open G M n Ns) Q
    open_tells earlier Ns k n t Q e =
        by_ended (tree.is_ended G (tree.stage_of G n))
        ∙ (λ i. (sym t.ended i || not (meets_of job s who ways makings n Q i)) && e i)
        ∙ and_comm (has_ended s.waits.knots k || not (interfere (needs_issued job n) Q)) (all_clear s.waits.knots Q earlier)
        ∙ ap (λ b. all_clear s.waits.knots Q earlier && b) (sym (and_on (has_ended s.waits.knots k || not (interfere (needs_issued job n) Q))))
        ∙ sym (list_all-append (λ (x : Sibling). has_ended s.waits.knots x.op || not (interfere x.needs Q)) earlier (record { op = k; needs = needs_issued job n } ∷ []))
      where
        both : (a b : Bool) → not (a || b) ≡ (not a && not b)
        both true b = refl
        both false b = refl

        by_ended : (b : Bool) → not (tree.meets_any G M (cond b Ns (tree.needs_of G n ∷ Ns)) Q) ≡ ((b || not (M.meets (tree.needs_of G n) Q)) && not (tree.meets_any G M Ns Q))
        by_ended true = refl
        by_ended false = both (M.meets (tree.needs_of G n) Q) (tree.meets_any G M Ns Q)

    pub children_clear : (Q : List Requirement) (way : List ℕ) (j c : ℕ) (earlier : List Sibling) (roots : List RootId) (ks : List OpNumber) (is : Items G) →
        ShowsChildren job s who ways way j c earlier roots ks is → all_clear s.waits.knots Q (siblings job ks is) ≡ tree.clear_of G M Q is
    children_clear Q way j c earlier roots ks no_item h = refl
    children_clear Q way j c earlier roots ks (said t is) h = children_clear Q way j c earlier roots ks is h
    children_clear Q way j c earlier roots [] (child_op n is) h = absurd h
    children_clear Q way j c earlier roots (k ∷ ks) (child_op n is) h =
        let t = node_told job s who ways (way ++ c ∷ []) k.0 earlier roots n h.1 in
        let r = children_clear Q way j (suc c) (earlier ++ record { op = k.0; needs = needs_issued job n } ∷ []) roots ks is h.2 in
        λ i. (t.ended i || not (sym (meets_of job s who ways makings n Q) i)) && r i

    given_told : (st : BoardStage G) → is_some (tree.given_by G M st) ≡ tree.is_ended G st
    given_told (idle w) = refl
    given_told (filling w d l) = refl
    given_told (out w d) = refl
    given_told (closing e) = refl
    given_told (over (by v)) = refl
    given_told (over (at_fault x)) = refl
    given_told (over stopped) = refl
    given_told dropped = refl

    child_told : (place : ℕ) (on : List OpNumber) (way : List ℕ) (j c : ℕ) (earlier : List Sibling) (roots : List RootId) (ks : List OpNumber) (is : Items G) →
        ShowsChildren job s who ways way j c earlier roots ks is → WaitsForChild s.waits.knots place (siblings job ks is) on →
        all_done s.waits.knots on ≡ is_some (tree.answer_of G M is place)
    child_told place on way j c earlier roots ks no_item h w = ap (all_done s.waits.knots) w
    child_told place on way j c earlier roots ks (said t is) h w = child_told place on way j c earlier roots ks is h w
    child_told place on way j c earlier roots [] (child_op n is) h w = absurd h
    child_told zero on way j c earlier roots (k ∷ ks) (child_op n is) h (inl w) =
        let t = node_told job s who ways (way ++ c ∷ []) k.0 earlier roots n h.1 in
        ap (all_done s.waits.knots) w ∙ and_on (has_ended s.waits.knots k.0) ∙ t.ended ∙ sym (given_told (tree.stage_of G n))
    child_told zero on way j c earlier roots (k ∷ ks) (child_op n is) h (inr w) =
        let t = node_told job s who ways (way ++ c ∷ []) k.0 earlier roots n h.1 in
        ap (all_done s.waits.knots) w.0 ∙ sym w.1 ∙ t.ended ∙ sym (given_told (tree.stage_of G n))
    child_told (suc place) on way j c earlier roots (k ∷ ks) (child_op n is) h w =
        child_told place on way j (suc c) (earlier ++ record { op = k.0; needs = needs_issued job n } ∷ []) roots ks is h.2 w

    -- what is waited for has come on both or on neither
    pub ready_told : (way : List ℕ) (j : ℕ) (D N : List Requirement) (earlier : List Sibling) (roots : List RootId) (ks : List OpNumber) (is : Items G) (w : BoardWait G) (on : List OpNumber) (before : Bool) →
        ShowsChildren job s who ways way j 0 [] roots ks is → AwaitsOn job.code s.waits.knots D N earlier (siblings job ks is) w on →
        AreOrdered s.waits.knots earlier → before ≡ all_clear s.waits.knots D earlier → all_done s.waits.knots on ≡ tree.is_ready G M before N w is
    ready_told way j D N earlier roots ks is first on before h a o t = (waits_are_told s.waits.knots D earlier on o a).ready ∙ sym t
    ready_told way j D N earlier roots ks is nothing on before h a o t = ap (all_done s.waits.knots) a
    ready_told way j D N earlier roots ks is (part x) on before h a o t =
        (waits_are_told s.waits.knots (filter (is_of x.root x.field) N) (siblings job ks is) on (children_ordered job s who ways way j 0 [] roots ks is h tt) a).ready
        ∙ children_clear (filter (is_of x.root x.field) N) way j 0 [] roots ks is h
    ready_told way j D N earlier roots ks is (child c) on before h a o t = child_told c on way j 0 [] roots ks is h a
