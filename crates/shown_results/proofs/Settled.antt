-- What is known of a table is known of the tree that it shows.
use Rattle.std.proofs.Common.{◌≡◌, ◌<◌, ◌≤◌, ◌+◌, ◌++◌, ◌∷◌, ◌∙◌, ◌||◌, ℕ, zero, suc, Bool, List, None, Option, Some, [], ap, arith, cond, eq-eqb, false, inl, inr, length, ne_eqb, refl, subst, sym, true}
use Rattle.std.proofs.lemmas.Bool.{false≢true}
use Rattle.std.proofs.lemmas.Option.{none-some, same_Some}
use Rattle.region_tree.specs.declared.tree.OpNumber.{OpNumber}
use Rattle.region_tree.specs.declared.tree.RootId.{RootId}
use Rattle.regent_tree.specs.declared.outcome.Outcome.{Outcome}
use Rattle.dependence_graph.specs.Knots.{knot_at}
use Rattle.dependence_graph.specs.declared.stage.Stage.{Stage as Knotted}
use Rattle.task_code.specs.declared.code.TaskCode.{TaskCode}
use Rattle.task_code.specs.declared.job.Job.{Job}
use Rattle.machine_terms.specs.Jobs.{ending_of, order_run}
use Rattle.board_rules.specs.Boards.{Ending as BoardEnding, Items, Operation as Node, Stage as BoardStage, at_fault, by, child_op, closing, dropped, filling, has_failed, idle, no_item, op, out, over, said, stage_of, stopped}
use Rattle.board_rules.specs.Ground.{Ground}
use Rattle.board_rules.specs.Known.{Known, known as known_by_tree, known_items, known_stage, known_then, stops_at, unknown, whole, with_text}
use Rattle.board_rules.specs.NumberedBoards.{Board, Step}
use Rattle.regent_boards.specs.Frames.{Stop, broken, faults_at}
use Rattle.regent_boards.specs.RegentMachine.{regent_ground}
use Rattle.code_boards.specs.Laws.{machine_of, main_of}
use Rattle.code_boards.specs.Views.{spaces_of}
use Rattle.order_boards.specs.Outcomes.{fault_of}
use Rattle.order_boards.proofs.Settled.{settled_boards_agree}
use Rattle.board_terms.specs.declared.operation.Activity.{Activity}
use Rattle.board_terms.specs.declared.operation.Activity.TheVariants as activity
use Rattle.board_terms.specs.declared.operation.Ending.{Ending}
use Rattle.board_terms.specs.declared.operation.Ending.TheVariants as ending
use Rattle.board_terms.specs.declared.operation.Operation.{Operation}
use Rattle.board_terms.specs.declared.operation.Said.{Said}
use Rattle.board_terms.specs.Outcomes.{ending_by}
use Rattle.board_terms.specs.Settled.{known, known_activity, known_at, known_woven, settled, settled_by}
use Rattle.board_terms.specs.States.{State, operation_at}
use Rattle.failure_laws.specs.Failures.{ChildrenTold, FailuresTold, StopIsTold, any_failed}
use Rattle.failure_laws.proofs.Failures.{failures_are_told}
use Rattle.board_trees.specs.Shows.{Shows, ShowsBoard, ShowsChildren, printed, said_in}
use Rattle.board_trees.specs.Stages.{HasFailed, HasValue, IsClosing, IsEnding, Stands, WasStopped}
use Rattle.board_trees.specs.Waits.{Sibling}
use Rattle.shown_results.specs.Settled.{SettledIsOrdered}
use Rattle.shown_results.proofs.Told.{HeadAbove, head_lower, said_above}

module _ (job : Job) where
  abbrev G : Ground
  G = regent_ground (spaces_of job.code)

  -- ---- a table's word for a tree's

  -- the two endings are one
  abbrev pub SameStop : Ending → Stop → Type 0
  SameStop (ending.Fault x) (faults_at y) = y ≡ x
  SameStop ending.Broken broken = Unit {0}
  SameStop _ _ = ⊥

  -- what the table knows, the tree knows
  abbrev pub Tells : Known ℕ Ending → Known ℕ Stop → Type 0
  Tells unknown u = Unit {0}
  Tells (whole t) (whole u) = t ≡ u
  Tells (stops_at e t) (stops_at x u) = SameStop e x × (t ≡ u)
  Tells _ _ = ⊥

  tells_text : (t : List ℕ) (a : Known ℕ Ending) (b : Known ℕ Stop) → Tells a b → Tells (with_text ℕ Ending t a) (with_text ℕ Stop t b)
  tells_text t unknown b h = tt
  tells_text t (whole u) (whole v) h = ap (λ w. t ++ w) h
  tells_text t (whole u) (stops_at x v) h = absurd h
  tells_text t (whole u) unknown h = absurd h
  tells_text t (stops_at e u) (whole v) h = absurd h
  tells_text t (stops_at e u) (stops_at x v) h = (h.0, ap (λ w. t ++ w) h.1)
  tells_text t (stops_at e u) unknown h = absurd h

  -- of what stands behind, something has to be told only where all before it is known
  tells_then : (a c : Known ℕ Ending) (b d : Known ℕ Stop) → Tells a b → ((t : List ℕ) → b ≡ whole t → Tells c d) → Tells (known_then ℕ Ending a c) (known_then ℕ Stop b d)
  tells_then unknown c b d h g = tt
  tells_then (whole t) c (whole u) d h g = subst (λ w. Tells (with_text ℕ Ending t c) (with_text ℕ Stop w d)) h (tells_text t c d (g u refl))
  tells_then (whole t) c (stops_at x u) d h g = absurd h
  tells_then (whole t) c unknown d h g = absurd h
  tells_then (stops_at e t) c (whole u) d h g = absurd h
  tells_then (stops_at e t) c (stops_at x u) d h g = h
  tells_then (stops_at e t) c unknown d h g = absurd h

  -- ---- what has failed isn't known whole

  abbrev NotWhole : Known ℕ Stop → Type 0
  NotWhole w = (t : List ℕ) → w ≡ whole t → ⊥

  text_not_whole : (t : List ℕ) (w : Known ℕ Stop) → NotWhole w → NotWhole (with_text ℕ Stop t w)
  text_not_whole t (whole u) n v e = n u refl
  text_not_whole t (stops_at x u) n v e = absurd cc
  text_not_whole t unknown n v e = absurd cc

  first_not_whole : (a b : Known ℕ Stop) → NotWhole a → NotWhole (known_then ℕ Stop a b)
  first_not_whole (whole u) b n v e = n u refl
  first_not_whole (stops_at x u) b n v e = absurd cc
  first_not_whole unknown b n v e = absurd cc

  last_not_whole : (a b : Known ℕ Stop) → NotWhole b → NotWhole (known_then ℕ Stop a b)
  last_not_whole (whole u) b n v e = text_not_whole u b n v e
  last_not_whole (stops_at x u) b n v e = absurd cc
  last_not_whole unknown b n v e = absurd cc

  stage_not_whole : (st : BoardStage G) → has_failed G st ≡ true → NotWhole (known_stage G st)
  stage_not_whole (over (by v)) h t e = absurd (false≢true h)
  stage_not_whole (over (at_fault x)) h t e = absurd cc
  stage_not_whole (over stopped) h t e = absurd cc
  stage_not_whole dropped h t e = absurd cc
  stage_not_whole (idle w) h t e = absurd (false≢true h)
  stage_not_whole (filling w d l) h t e = absurd (false≢true h)
  stage_not_whole (out w d) h t e = absurd (false≢true h)
  stage_not_whole (closing x) h t e = absurd (false≢true h)

  node_not_whole : (n : Node G) → has_failed G (stage_of G n) ≡ true → NotWhole (known_by_tree G n)
  node_not_whole (op D N i f ps st is) h = last_not_whole (known_items G is) (known_stage G st) (stage_not_whole st h)

  or_parts : (a b : Bool) {A : Type 0} → (a || b) ≡ true → (a ≡ true → A) → (b ≡ true → A) → A
  or_parts true b e f g = f refl
  or_parts false b e f g = g e

  items_not_whole : (is : Items G) → any_failed G is ≡ true → NotWhole (known_items G is)
  items_not_whole no_item h = absurd (false≢true h)
  items_not_whole (said t is) h = text_not_whole t (known_items G is) (items_not_whole is h)
  items_not_whole (child_op n is) h = or_parts (has_failed G (stage_of G n)) (any_failed G is) h
      (λ d. first_not_whole (known_by_tree G n) (known_items G is) (node_not_whole n d))
      (λ d. last_not_whole (known_by_tree G n) (known_items G is) (items_not_whole is d))

  -- ---- where text stands among children

  woven_child : (child : ℕ → Known ℕ Ending) (c : ℕ) (ps : List Said) (k : OpNumber) (ks : List OpNumber) → HeadAbove job (suc c) ps →
      known_woven child c ps (k ∷ ks) ≡ known_then ℕ Ending (child k.0) (known_woven child (suc c) ps ks)
  woven_child child c [] k ks h = refl
  woven_child child c (p ∷ ps) k ks h =
      ap (λ b. cond b (with_text ℕ Ending p.text (known_woven child c ps (k ∷ ks))) (known_then ℕ Ending (child k.0) (known_woven child (suc c) (p ∷ ps) ks)))
      (ne_eqb p.children c (λ e. omega (arith, h, e)))

  woven_text : (child : ℕ → Known ℕ Ending) (c : ℕ) (t : List ℕ) (ps : List Said) (ks : List OpNumber) →
      known_woven child c (record { children = c; text = t } ∷ ps) ks ≡ with_text ℕ Ending t (known_woven child c ps ks)
  woven_text child c t ps [] = refl
  woven_text child c t ps (k ∷ ks) =
      ap (λ b. cond b (with_text ℕ Ending t (known_woven child c ps (k ∷ ks))) (known_then ℕ Ending (child k.0) (known_woven child (suc c) (record { children = c; text = t } ∷ ps) ks)))
      (eq-eqb c c refl)

  no_text : (w : Known ℕ Stop) → with_text ℕ Stop [] w ≡ w
  no_text (whole u) = refl
  no_text (stops_at x u) = refl
  no_text unknown = refl

  woven_printed : (child : ℕ → Known ℕ Ending) (c : ℕ) (t : List ℕ) (ps : List Said) (ks : List OpNumber) (w : Known ℕ Stop) → Tells (known_woven child c ps ks) w →
      Tells (known_woven child c (printed job c t ps) ks) (with_text ℕ Stop t w)
  woven_printed child c [] ps ks w h = subst (Tells (known_woven child c ps ks)) (sym (no_text w)) h
  woven_printed child c (x ∷ xs) ps ks w h =
      subst (λ a. Tells a (with_text ℕ Stop (x ∷ xs) w)) (sym (woven_text child c (x ∷ xs) ps ks)) (tells_text (x ∷ xs) (known_woven child c ps ks) w h)

  -- ---- the operation's own end

  same_ending : (u : Ending) (e : BoardEnding G) → IsEnding job.code u e → Tells (known_activity (activity.Closing u)) (known_stage G (closing e))
  same_ending (ending.Value v) (by w) h = refl
  same_ending (ending.Value v) (at_fault x) h = absurd h
  same_ending (ending.Value v) stopped h = absurd h
  same_ending (ending.Fault x) (by w) h = absurd h
  same_ending (ending.Fault x) (at_fault (faults_at y)) h = (h, refl)
  same_ending (ending.Fault x) (at_fault broken) h = absurd h
  same_ending (ending.Fault x) stopped h = absurd h
  same_ending ending.Broken (by w) h = absurd h
  same_ending ending.Broken (at_fault (faults_at y)) h = absurd h
  same_ending ending.Broken (at_fault broken) h = (tt, refl)
  same_ending ending.Broken stopped h = absurd h

  idle_tells : (a : Activity) (w : Known ℕ Stop) → a ≡ activity.Idle → Tells (known_activity a) w
  idle_tells a w e = subst (λ x. Tells (known_activity x) w) (sym e) tt

  own_tells : (s : State) (extents : _) (who : ℕ → ℕ) (roots : List RootId) (kn : Knotted) (o : Operation) (N : _) (st : BoardStage G) →
      Stands job.code extents who roots s kn o N st → ¬ (st ≡ over stopped) → Tells (known_activity o.activity) (known_stage G st)
  own_tells s extents who roots kn o N (idle w) h n = idle_tells o.activity unknown h.1.0
  own_tells s extents who roots kn o N (filling w d l) h n = subst (λ x. Tells (known_activity x) unknown) (sym h.1.activity_is) tt
  own_tells s extents who roots kn o N (out w d) h n = subst (λ x. Tells (known_activity x) unknown) (sym h.1.activity_is) tt
  own_tells s extents who roots kn o N (closing e) (inl h) n = subst (λ x. Tells (known_activity x) (known_stage G (closing e))) (sym h.1.activity_is) (same_ending h.1.own e h.1.ends)
  own_tells s extents who roots kn o N (closing (by v)) (inr h) n = absurd h.1
  own_tells s extents who roots kn o N (closing (at_fault x)) (inr h) n = absurd h.1
  own_tells s extents who roots kn o N (closing stopped) (inr h) n = idle_tells o.activity (known_stage G (closing stopped)) h.1
  own_tells s extents who roots kn o N (over (by v)) (inl h) n = subst (λ x. Tells (known_activity x) (known_stage G (over (by v)))) (sym h.1) refl
  own_tells s extents who roots kn o N (over (by v)) (inr h) n = absurd h.1
  own_tells s extents who roots kn o N (over (at_fault x)) (inl h) n = absurd h.1
  own_tells s extents who roots kn o N (over (at_fault x)) (inr h) n = subst (λ a. Tells (known_activity a) (known_stage G (over (at_fault x)))) (sym h.1.activity_is) (same_ending h.1.own (at_fault x) h.1.ends)
  own_tells s extents who roots kn o N (over stopped) h n = absurd (n refl)
  own_tells s extents who roots kn o N dropped h n = idle_tells o.activity (known_stage G dropped) h.1.0

  module _ (s : State) (who : ℕ → ℕ) (ways : List (List ℕ)) where
    -- what is known of each child whose number is above
    abbrev ChildKnown : (ℕ → Known ℕ Ending) → ℕ → Type 0
    ChildKnown child j = (way : List ℕ) (k : ℕ) (earlier : List Sibling) (above : List RootId) (n : Node G) → j < k → Shows job s who ways way k earlier above n →
        FailuresTold G n → Tells (child k) (known_by_tree G n)

    children_known : (child : ℕ → Known ℕ Ending) (j : ℕ) → ChildKnown child j → (way : List ℕ) (c : ℕ) (earlier : List Sibling) (roots : List RootId) (ks : List OpNumber) (b : Bool) (is : Items G) →
        ShowsChildren job s who ways way j c earlier roots ks is → ChildrenTold G b is → Tells (known_woven child c (said_in job c is) ks) (known_items G is)
    children_known child j ih way c earlier roots ks b no_item h f = subst (λ ks. Tells (known_woven child c [] ks) (whole [])) (sym h) refl
    children_known child j ih way c earlier roots ks b (said t is) h f =
        woven_printed child c t (said_in job c is) ks (known_items G is) (children_known child j ih way c earlier roots ks b is h f)
    children_known child j ih way c earlier roots [] b (child_op n is) h f = absurd h
    children_known child j ih way c earlier roots (k ∷ ks) b (child_op n is) h f =
        subst (λ w. Tells w (known_items G (child_op n is))) (sym (woven_child child c (said_in job (suc c) is) k ks (said_above job (suc c) is)))
        (tells_then (child k.0) (known_woven child (suc c) (said_in job (suc c) is) ks) (known_by_tree G n) (known_items G is)
        (ih (way ++ c ∷ []) k.0 earlier roots n h.0.later h.1 f.1)
        (λ t e. children_known child j ih way (suc c) _ roots ks _ is h.2 f.2))

    -- with any number of levels
    pub operation_known : (m : ℕ) (way : List ℕ) (k : ℕ) (earlier : List Sibling) (above : List RootId) (n : Node G) →
        Shows job s who ways way k earlier above n → FailuresTold G n → Tells (known_at m s k) (known_by_tree G n)
    operation_known zero way k earlier above n h t = tt
    operation_known (suc m) way k earlier above (op D N i f ps st is) h t =
        subst (λ ps. Tells (known_then ℕ Ending (known_woven (known_at m s) 0 ps (operation_at s k).children) (known_activity (operation_at s k).activity)) (known_then ℕ Stop (known_items G is) (known_stage G st)))
        h.0.said_is
        (tells_then (known_woven (known_at m s) 0 (said_in job 0 is) (operation_at s k).children) (known_activity (operation_at s k).activity) (known_items G is) (known_stage G st)
        (children_known (known_at m s) k (λ way q earlier above n more shows fail. operation_known m way q earlier above n shows fail)
        way 0 [] (above ++ (operation_at s k).frame.own) (operation_at s k).children false is h.1 t.1)
        (λ u e. own_tells s s.roots who (above ++ (operation_at s k).frame.own) (knot_at s.waits.knots k).stage (operation_at s k) N st h.0.stands
        (λ r. items_not_whole is (subst (λ x. StopIsTold G x is) r t.0) u e)))

  -- ---- the outcome

  ending_tells : (s : State) (e : Ending) (x : Stop) → SameStop e x → ending_of (fault_of x) ≡ ending_by s (Some e)
  ending_tells s (ending.Value v) x h = absurd h
  ending_tells s (ending.Fault y) (faults_at x) h = ap (λ z. ending_of (Some z)) h
  ending_tells s (ending.Fault y) broken h = absurd h
  ending_tells s ending.Broken (faults_at x) h = absurd h
  ending_tells s ending.Broken broken h = refl

pub settled_is_ordered : SettledIsOrdered
settled_is_ordered job t steps b s o found may made h e =
    by_known (known s) (known_by_tree (regent_ground (spaces_of job.code)) b.state.tree) refl
    (operation_known job s h.who b.ways (length s.operations) [] 0 [] [] b.state.tree h.shows
    (failures_are_told (regent_ground (spaces_of job.code)) (machine_of job) (main_of job t) steps b made).0) e
  where
    by_known : (w : Known ℕ Ending) (v : Known ℕ Stop) → known_by_tree (regent_ground (spaces_of job.code)) b.state.tree ≡ v → Tells job w v → settled_by s w ≡ Some o → order_run job ≡ o
    by_known unknown v q k g = absurd (none-some o g)
    by_known (whole u) v q k g = absurd (none-some o g)
    by_known (stops_at x u) (whole w) q k g = absurd k
    by_known (stops_at x u) unknown q k g = absurd k
    by_known (stops_at x u) (stops_at y w) q k g =
        settled_boards_agree job t steps b y w found may made q
        ∙ (λ i. record { text = sym k.1 i; ending = ending_tells job s x y k.0 i })
        ∙ same_Some _ o g
