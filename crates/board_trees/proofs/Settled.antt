-- What shows is settled.
use Rattle.std.proofs.Common.{◌≡◌, ◌++◌, ◌∷◌, ◌∙◌, ◌&&◌, ◌||◌, ℕ, zero, suc, Bool, List, Some, [], ap, cond, false, inl, inr, refl, subst, sym, true}
use Rattle.std.specs.Prelude.{filter}
use Rattle.std.proofs.Math.Bool.{or_comm}
use Rattle.std.proofs.lemmas.List.Folds.{list_any-append}
use Rattle.region_tree.specs.Requirements.{Requirement, interfere, is_of}
use Rattle.region_tree.specs.declared.tree.OpNumber.{OpNumber}
use Rattle.region_tree.specs.declared.tree.RootId.{RootId}
use Rattle.dependence_graph.specs.Knots.{has_failed, is_done, knot_at, some_failed, stage_at}
use Rattle.dependence_graph.specs.declared.stage.Stage.{Stage as Knotted}
use Rattle.dependence_graph.specs.declared.stage.Stage.TheVariants as knot
use Rattle.task_code.specs.declared.job.Job.{Job}
use Rattle.board_rules.specs.Boards.{Items, Operation as Node, Stage as BoardStage, Wait as BoardWait, at_fault, by, child, child_op, closing, dropped, filling, first, idle, no_item, nothing, op, out, over, part, said, stopped}
use Rattle.board_rules.specs.Boards as tree
use Rattle.board_rules.specs.Ground.{Ground}
use Rattle.board_rules.specs.Running.{Element, Machine}
use Rattle.regent_boards.specs.Frames as board
use Rattle.regent_boards.specs.RegentMachine.{regent_ground}
use Rattle.code_boards.specs.Laws.{machine_of}
use Rattle.code_boards.specs.Views.{spaces_of}
use Rattle.board_terms.specs.declared.extent.Extent.{Extent}
use Rattle.board_terms.specs.declared.operation.Activity.{Activity}
use Rattle.board_terms.specs.declared.operation.Activity.TheVariants as activity
use Rattle.board_terms.specs.declared.operation.Operation.{Operation}
use Rattle.board_terms.specs.declared.operation.Wait.{Wait}
use Rattle.board_terms.specs.declared.operation.Wait.TheVariants as wait
use Rattle.board_terms.specs.Closings.{all_over}
use Rattle.board_terms.specs.Stages.{by_activity, by_wait, is_over, stage_of}
use Rattle.board_terms.specs.Stages as table
use Rattle.board_terms.specs.States.{State, operation_at}
use Rattle.board_trees.specs.Shows.{Shows, ShowsChildren, needs_issued, siblings}
use Rattle.board_trees.specs.Stages.{MayIdle, Stands}
use Rattle.board_trees.specs.Told.{AreOrdered, ShownIsSettled, some_bad}
use Rattle.board_trees.specs.Waits.{Sibling, WaitsForChild, has_ended}
use Rattle.board_trees.proofs.Ordered.{children_ordered, node_ordered}
use Rattle.board_trees.proofs.Told.{done_unfailed, or_off, stage_there, waits_are_told}

pub wait_open : (w : Wait) → is_over (by_wait w) ≡ false
wait_open wait.Beginning = refl
wait_open wait.Nothing = refl
wait_open (wait.Part root field) = refl
wait_open (wait.Child n) = refl

pub activity_open : (a : Activity) → is_over (by_activity a) ≡ false
activity_open activity.Idle = refl
activity_open (activity.Filling claim fill) = refl
activity_open (activity.Out claim before) = refl
activity_open (activity.Closing e) = refl

-- ---- stopped once is enough

module _ (G : Ground) (M : Machine G) where
  pub stop_twice : (N : G.Needs) (st : BoardStage G) (is : Items G) → tree.stop G M N (tree.stop G M N st is) is ≡ tree.stop G M N st is
  stop_twice N (idle w) is = chosen (tree.waits_for_failed G M N w is) refl
    where
      chosen : (b : Bool) → tree.waits_for_failed G M N w is ≡ b → tree.stop G M N (cond b (closing stopped) (idle w)) is ≡ cond b (closing stopped) (idle w)
      chosen true e = refl
      chosen false e = ap (λ b. cond b (closing stopped) (idle w)) e
  stop_twice N (filling w d l) is = refl
  stop_twice N (out w d) is = refl
  stop_twice N (closing e) is = refl
  stop_twice N (over e) is = refl
  stop_twice N dropped is = refl

module _ (job : Job) where
  abbrev G : Ground
  G = regent_ground (spaces_of job.code)

  -- ---- stages

  record StageTold (kn : Knotted) (st : BoardStage G) : Type 0 where
    ended : is_done (Some kn) ≡ tree.is_ended G st
    failed : has_failed (Some kn) ≡ tree.has_failed G st
    open_is : (w : Wait) (a : Activity) → is_over (stage_of kn w a) ≡ tree.is_over G st

  begun_told : (st : BoardStage G) → tree.is_ended G st ≡ false → tree.has_failed G st ≡ false → tree.is_over G st ≡ false → StageTold knot.Begun st
  begun_told st e f o = record { ended = sym e; failed = sym f; open_is = λ w a. activity_open a ∙ sym o }

  parked_told : (w : BoardWait G) → StageTold knot.Parked (idle w)
  parked_told w = record { ended = refl; failed = refl; open_is = λ v a. wait_open v }

  told_as : (kn km : Knotted) (st : BoardStage G) → kn ≡ km → StageTold km st → StageTold kn st
  told_as kn km st e t = subst (λ k. StageTold k st) (sym e) t

  module _ (extents : List Extent) (who : ℕ → ℕ) (roots : List RootId) (s : State) (kn : Knotted) (o : Operation) (N : List Requirement) where
    idle_told : (w : BoardWait G) → MayIdle job.code extents who roots kn w → StageTold kn (idle w)
    idle_told first (inl e) = told_as kn knot.Waiting (idle first) e (record { ended = refl; failed = refl; open_is = λ w a. refl })
    idle_told first (inr e) = told_as kn knot.Parked (idle first) e (parked_told first)
    idle_told nothing e = told_as kn knot.Parked (idle nothing) e (parked_told nothing)
    idle_told (part k) e = told_as kn knot.Parked (idle (part k)) e (parked_told (part k))
    idle_told (child c) e = told_as kn knot.Parked (idle (child c)) e (parked_told (child c))

    stage_told : (st : BoardStage G) → Stands job.code extents who roots s kn o N st → StageTold kn st
    stage_told (idle w) h = idle_told w h.0
    stage_told (filling w d l) h = told_as kn knot.Begun (filling w d l) h.0 (begun_told (filling w d l) refl refl refl)
    stage_told (out w d) h = told_as kn knot.Begun (out w d) h.0 (begun_told (out w d) refl refl refl)
    stage_told (closing e) (inl h) = told_as kn knot.Begun (closing e) h.0 (begun_told (closing e) refl refl refl)
    stage_told (closing e) (inr h) = told_as kn knot.Stopped (closing e) h.0 (record { ended = refl; failed = refl; open_is = λ w a. refl })
    stage_told (over (by v)) (inl h) = told_as kn knot.Done (over (by v)) h.0 (record { ended = refl; failed = refl; open_is = λ w a. refl })
    stage_told (over (by v)) (inr h) = absurd h.1
    stage_told (over (at_fault x)) (inl h) = absurd h.1
    stage_told (over (at_fault x)) (inr h) = told_as kn knot.Failed (over (at_fault x)) h.0 (record { ended = refl; failed = refl; open_is = λ w a. refl })
    stage_told (over stopped) (inl h) = absurd h.1
    stage_told (over stopped) (inr h) = told_as kn knot.Failed (over stopped) h.0 (record { ended = refl; failed = refl; open_is = λ w a. refl })
    stage_told dropped h = told_as kn knot.Dropped dropped h.0 (record { ended = refl; failed = refl; open_is = λ w a. refl })

  module _ (s : State) (who : ℕ → ℕ) (ways : List (List ℕ)) where
    pub record NodeTold (k : ℕ) (n : Node G) : Type 0 where
      pub ended : has_ended s.waits.knots k ≡ tree.is_ended G (tree.stage_of G n)
      pub failed : has_failed (stage_at s.waits.knots k) ≡ tree.has_failed G (tree.stage_of G n)
      pub is_over : is_over (table.stage_at s k) ≡ tree.is_over G (tree.stage_of G n)

    pub node_told : (way : List ℕ) (k : ℕ) (earlier : List Sibling) (above : List RootId) (n : Node G) → Shows job s who ways way k earlier above n → NodeTold k n
    node_told way k earlier above (op D N i f ps st is) h =
        let t = stage_told s.roots who (above ++ (operation_at s k).frame.own) s (knot_at s.waits.knots k).stage (operation_at s k) N st h.0.stands in
        let there = stage_there s.waits.knots k h.0.knot in
        record {
          ended = ap is_done there ∙ t.ended;
          failed = ap has_failed there ∙ t.failed;
          is_over = t.open_is (operation_at s k).wait (operation_at s k).activity;
        }

    -- ---- children

    pub children_over : (way : List ℕ) (j c : ℕ) (earlier : List Sibling) (roots : List RootId) (ks : List OpNumber) (is : Items G) →
        ShowsChildren job s who ways way j c earlier roots ks is → all_over s ks ≡ tree.all_over G is
    children_over way j c earlier roots ks no_item h = ap (all_over s) h
    children_over way j c earlier roots ks (said t is) h = children_over way j c earlier roots ks is h
    children_over way j c earlier roots [] (child_op n is) h = absurd h
    children_over way j c earlier roots (k ∷ ks) (child_op n is) h =
        let t = node_told (way ++ c ∷ []) k.0 earlier roots n h.1 in
        let r = children_over way j (suc c) (earlier ++ record { op = k.0; needs = needs_issued job n } ∷ []) roots ks is h.2 in
        λ i. t.is_over i && r i

    module _ (makings : ℕ) where
      abbrev M : Machine G
      M = machine_of job makings

      pub meets_of : (n : Node G) (Q : List Requirement) → M.meets (tree.needs_of G n) Q ≡ interfere (needs_issued job n) Q
      meets_of (op D N i f ps st is) Q = refl

      pub children_bad : (Q : List Requirement) (way : List ℕ) (j c : ℕ) (earlier : List Sibling) (roots : List RootId) (ks : List OpNumber) (is : Items G) →
          ShowsChildren job s who ways way j c earlier roots ks is → some_bad s.waits.knots Q (siblings job ks is) ≡ tree.failed_on G M Q is
      children_bad Q way j c earlier roots ks no_item h = refl
      children_bad Q way j c earlier roots ks (said t is) h = children_bad Q way j c earlier roots ks is h
      children_bad Q way j c earlier roots [] (child_op n is) h = absurd h
      children_bad Q way j c earlier roots (k ∷ ks) (child_op n is) h =
          let t = node_told (way ++ c ∷ []) k.0 earlier roots n h.1 in
          let r = children_bad Q way j (suc c) (earlier ++ record { op = k.0; needs = needs_issued job n } ∷ []) roots ks is h.2 in
          λ i. t.failed i && sym (meets_of n Q) i || r i

      child_unfailed : (place : ℕ) (on : List OpNumber) (way : List ℕ) (j c : ℕ) (earlier : List Sibling) (roots : List RootId) (ks : List OpNumber) (is : Items G) →
          ShowsChildren job s who ways way j c earlier roots ks is → WaitsForChild s.waits.knots place (siblings job ks is) on → some_failed s.waits.knots on ≡ false →
          tree.failed_at G M is place ≡ false
      child_unfailed place on way j c earlier roots ks no_item h w e = refl
      child_unfailed place on way j c earlier roots ks (said t is) h w e = child_unfailed place on way j c earlier roots ks is h w e
      child_unfailed place on way j c earlier roots [] (child_op n is) h w e = absurd h
      child_unfailed zero on way j c earlier roots (k ∷ ks) (child_op n is) h (inl w) e =
          let t = node_told (way ++ c ∷ []) k.0 earlier roots n h.1 in
          sym t.failed ∙ sym (or_off (has_failed (stage_at s.waits.knots k.0))) ∙ ap (some_failed s.waits.knots) (sym w) ∙ e
      child_unfailed zero on way j c earlier roots (k ∷ ks) (child_op n is) h (inr w) e =
          let t = node_told (way ++ c ∷ []) k.0 earlier roots n h.1 in
          sym t.failed ∙ done_unfailed (stage_at s.waits.knots k.0) w.1
      child_unfailed (suc place) on way j c earlier roots (k ∷ ks) (child_op n is) h w e =
          child_unfailed place on way j (suc c) (earlier ++ record { op = k.0; needs = needs_issued job n } ∷ []) roots ks is h.2 w e

      -- ---- nothing is dropped

      off : (a b : Bool) → (a ≡ true → b ≡ false) → (a && b) ≡ false
      off true b h = h refl
      off false b h = refl

      pub unmet : (bad : List (List Requirement)) (way : List ℕ) (k : ℕ) (earlier : List Sibling) (above : List RootId) (n : Node G) → Shows job s who ways way k earlier above n →
          AreOrdered s.waits.knots earlier → ((Q : List Requirement) → tree.meets_any G M bad Q ≡ some_bad s.waits.knots Q earlier) →
          tree.is_waiting G (tree.stage_of G n) ≡ true → tree.meets_any G M bad (tree.needs_of G n) ≡ false
      unmet bad way k earlier above (op D N i f ps (idle first) is) h o tells e =
          tells D ∙ sym (waits_are_told s.waits.knots D earlier (knot_at s.waits.knots k).on o h.0.waits.0).failed ∙ h.0.waits.1
      unmet bad way k earlier above (op D N i f ps (idle nothing) is) h o tells e = absurd cc
      unmet bad way k earlier above (op D N i f ps (idle (part x)) is) h o tells e = absurd cc
      unmet bad way k earlier above (op D N i f ps (idle (child x)) is) h o tells e = absurd cc
      unmet bad way k earlier above (op D N i f ps (filling w d l) is) h o tells e = absurd cc
      unmet bad way k earlier above (op D N i f ps (out w d) is) h o tells e = absurd cc
      unmet bad way k earlier above (op D N i f ps (closing x) is) h o tells e = absurd cc
      unmet bad way k earlier above (op D N i f ps (over x) is) h o tells e = absurd cc
      unmet bad way k earlier above (op D N i f ps dropped is) h o tells e = absurd cc

      abbrev pub worse : Node G → List (List Requirement) → List (List Requirement)
      worse n bad = cond (tree.has_failed G (tree.stage_of G n)) (tree.needs_of G n ∷ bad) bad

      pub worse_tells : (bad : List (List Requirement)) (earlier : List Sibling) (k : ℕ) (n : Node G) → NodeTold k n → (Q : List Requirement) →
          tree.meets_any G M bad Q ≡ some_bad s.waits.knots Q earlier →
          tree.meets_any G M (worse n bad) Q ≡ some_bad s.waits.knots Q (earlier ++ record { op = k; needs = needs_issued job n } ∷ [])
      worse_tells bad earlier k n t Q e =
          by_failed (tree.has_failed G (tree.stage_of G n))
          ∙ (λ i. (sym t.failed i && meets_of n Q i) || e i)
          ∙ or_comm (has_failed (stage_at s.waits.knots k) && interfere (needs_issued job n) Q) (some_bad s.waits.knots Q earlier)
          ∙ ap (λ b. some_bad s.waits.knots Q earlier || b) (sym (or_off (has_failed (stage_at s.waits.knots k) && interfere (needs_issued job n) Q)))
          ∙ sym (list_any-append (λ (x : Sibling). has_failed (stage_at s.waits.knots x.op) && interfere x.needs Q) earlier (record { op = k; needs = needs_issued job n } ∷ []))
        where
          by_failed : (b : Bool) → tree.meets_any G M (cond b (tree.needs_of G n ∷ bad) bad) Q ≡ (b && M.meets (tree.needs_of G n) Q || tree.meets_any G M bad Q)
          by_failed true = refl
          by_failed false = refl

      pub swept_child : (bad : List (List Requirement)) (n : Node G) (is js : Items G) → (tree.is_waiting G (tree.stage_of G n) ≡ true → tree.meets_any G M bad (tree.needs_of G n) ≡ false) →
          tree.sweep G M (worse n bad) is ≡ js → tree.sweep G M bad (child_op n is) ≡ child_op n js
      swept_child bad n is js h e =
          ap (λ b. cond b (child_op (tree.as_dropped G M n) (tree.sweep G M (tree.needs_of G n ∷ bad) is)) (child_op n (tree.sweep G M (worse n bad) is)))
          (off (tree.is_waiting G (tree.stage_of G n)) (tree.meets_any G M bad (tree.needs_of G n)) h)
          ∙ ap (λ y. child_op n y) e

      nothing_dropped : (bad : List (List Requirement)) (way : List ℕ) (j c : ℕ) (earlier : List Sibling) (roots : List RootId) (ks : List OpNumber) (is : Items G) →
          ShowsChildren job s who ways way j c earlier roots ks is → AreOrdered s.waits.knots earlier → ((Q : List Requirement) → tree.meets_any G M bad Q ≡ some_bad s.waits.knots Q earlier) →
          tree.sweep G M bad is ≡ is
      nothing_dropped bad way j c earlier roots ks no_item h o tells = refl
      nothing_dropped bad way j c earlier roots ks (said t is) h o tells = ap (λ y. said t y) (nothing_dropped bad way j c earlier roots ks is h o tells)
      nothing_dropped bad way j c earlier roots [] (child_op n is) h o tells = absurd h
      nothing_dropped bad way j c earlier roots (k ∷ ks) (child_op n is) h o tells =
          swept_child bad n is is (unmet bad (way ++ c ∷ []) k.0 earlier roots n h.1 o tells)
          (nothing_dropped (worse n bad) way j (suc c) (earlier ++ record { op = k.0; needs = needs_issued job n } ∷ []) roots ks is h.2
          (node_ordered job s who ways (way ++ c ∷ []) k.0 earlier roots n h.1 o)
          (λ Q. worse_tells bad earlier k.0 n (node_told (way ++ c ∷ []) k.0 earlier roots n h.1) Q (tells Q)))

      -- ---- nothing is stopped, and nothing is closed

      nothing_stopped : (way : List ℕ) (k : ℕ) (earlier : List Sibling) (above : List RootId) (D N : List Requirement) (i : ℕ) (f : board.Frame) (ps : List (Element G)) (st : BoardStage G) (is : Items G) →
          Shows job s who ways way k earlier above (op D N i f ps st is) → tree.stop G M N st is ≡ st
      nothing_stopped way k earlier above D N i f ps (idle first) is h = refl
      nothing_stopped way k earlier above D N i f ps (idle nothing) is h = refl
      nothing_stopped way k earlier above D N i f ps (idle (part x)) is h =
          let Q = filter (is_of x.root x.field) N in
          ap (λ b. cond b (closing stopped) (idle (part x)))
          (sym (children_bad Q way k 0 [] (above ++ (operation_at s k).frame.own) (operation_at s k).children is h.1)
          ∙ sym (waits_are_told s.waits.knots Q (siblings job (operation_at s k).children is) (knot_at s.waits.knots k).on
          (children_ordered job s who ways way k 0 [] (above ++ (operation_at s k).frame.own) (operation_at s k).children is h.1 tt) h.0.waits.0).failed
          ∙ h.0.waits.1)
      nothing_stopped way k earlier above D N i f ps (idle (child x)) is h =
          ap (λ b. cond b (closing stopped) (idle (child x)))
          (child_unfailed x (knot_at s.waits.knots k).on way k 0 [] (above ++ (operation_at s k).frame.own) (operation_at s k).children is h.1 h.0.waits.0 h.0.waits.1)
      nothing_stopped way k earlier above D N i f ps (filling w d l) is h = refl
      nothing_stopped way k earlier above D N i f ps (out w d) is h = refl
      nothing_stopped way k earlier above D N i f ps (closing x) is h = refl
      nothing_stopped way k earlier above D N i f ps (over x) is h = refl
      nothing_stopped way k earlier above D N i f ps dropped is h = refl

      nothing_closed : (way : List ℕ) (k : ℕ) (earlier : List Sibling) (above : List RootId) (D N : List Requirement) (i : ℕ) (f : board.Frame) (ps : List (Element G)) (st : BoardStage G) (is : Items G) →
          Shows job s who ways way k earlier above (op D N i f ps st is) → tree.close G M st is ≡ st
      nothing_closed way k earlier above D N i f ps (idle w) is h = refl
      nothing_closed way k earlier above D N i f ps (filling w d l) is h = refl
      nothing_closed way k earlier above D N i f ps (out w d) is h = refl
      nothing_closed way k earlier above D N i f ps (closing x) is h =
          ap (λ b. cond b (over (tree.ending_with G M x (tree.all_ended G is))) (closing x))
          (sym (children_over way k 0 [] (above ++ (operation_at s k).frame.own) (operation_at s k).children is h.1) ∙ h.0.children_are)
      nothing_closed way k earlier above D N i f ps (over x) is h = refl
      nothing_closed way k earlier above D N i f ps dropped is h = refl

      pub settled : (way : List ℕ) (k : ℕ) (earlier : List Sibling) (above : List RootId) (n : Node G) →
          Shows job s who ways way k earlier above n → tree.settle G M n ≡ n
      settled way k earlier above (op D N i f ps st is) h =
          ap (tree.settled G M D N i f ps st)
          (nothing_dropped [] way k 0 [] (above ++ (operation_at s k).frame.own) (operation_at s k).children is h.1 tt (λ Q. refl))
          ∙ ap (λ x. op D N i f ps (tree.close G M x is) is) (nothing_stopped way k earlier above D N i f ps st is h)
          ∙ ap (λ x. op D N i f ps x is) (nothing_closed way k earlier above D N i f ps st is h)

pub shown_is_settled : ShownIsSettled
shown_is_settled job s who ways way k earlier above n h makings = settled job s who ways makings way k earlier above n h
