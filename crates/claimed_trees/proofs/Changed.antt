-- One operation changes that goes on: what it does, and how it stands in the graph.
use Rattle.std.proofs.Common.{◌≡◌, ◌<◌, ◌++◌, ◌∷◌, ◌∙◌, ℕ, List, None, Option, Some, [], ap, cond, false, length, refl, set, subst, sym, true, append_assoc}
use Rattle.std.specs.Prelude.{map, nat_lt}
use Rattle.std.proofs.lemmas.List.{get_or-set_other, get_or-set_same, length-set}
use Rattle.region_tree.specs.Requirements.{Requirement}
use Rattle.region_tree.specs.declared.tree.OpNumber.{OpNumber}
use Rattle.region_tree.specs.declared.tree.RootId.{RootId}
use Rattle.dependence_graph.specs.Entries.{Knot}
use Rattle.dependence_graph.specs.Knots.{has_failed, is_done, knot_at, no_knot, stage_at}
use Rattle.dependence_graph.specs.declared.stage.Stage.TheVariants as knot
use Rattle.task_code.specs.declared.job.Job.{Job}
use Rattle.board_rules.specs.Boards.{Items, Stage as BoardStage, first, idle, op}
use Rattle.board_rules.specs.Ground.{Ground}
use Rattle.board_rules.specs.NumberedBoards.{way_of}
use Rattle.board_rules.specs.Running.{Element}
use Rattle.regent_boards.specs.Frames as board
use Rattle.regent_boards.specs.RegentMachine.{regent_ground}
use Rattle.code_boards.specs.Laws.{machine_of}
use Rattle.code_boards.specs.Views.{spaces_of}
use Rattle.board_terms.specs.declared.operation.Activity.{Activity}
use Rattle.board_terms.specs.declared.operation.Operation.{Operation}
use Rattle.board_terms.specs.Claims.{value_at, value_of}
use Rattle.board_terms.specs.Stages.{is_over, stage_of}
use Rattle.board_terms.specs.Stages as table
use Rattle.board_terms.specs.States.{State, no_operation, operation_at}
use Rattle.board_trees.specs.Frames.{IsSeen}
use Rattle.board_trees.specs.Names.{IsNaming}
use Rattle.board_trees.specs.Shows.{AreListed, IfRuns, Row, Shows, ShowsChildren, siblings}
use Rattle.board_trees.specs.Stages.{ChildrenAre, Stands, WaitsWell, was_begun}
use Rattle.board_trees.specs.Waits.{Sibling, all_clear}
use Rattle.board_trees.proofs.Along.{not_above}
use Rattle.board_trees.proofs.Kept.{ChangesOne, by_number, children_kept, clear_kept, listed_kept, seen_as, with_rows}
use Rattle.board_trees.proofs.Told.{stage_there}

module _ (s : State) (k : ℕ) (act : Activity) (kn : Knot) (turns : ℕ) where
  abbrev pub now : Operation
  now = record (operation_at s k) { activity = act }

  abbrev pub rows : List Operation
  rows = set s.operations k now

  abbrev pub knots : List Knot
  knots = set s.waits.knots k kn

  abbrev pub changed : State
  changed = with_rows s rows knots turns

  -- others see it as before: it hasn't ended and hasn't failed, and so it is behind the step
  pub record GoesOn : Type 0 where
    pub within : k < length s.operations
    pub there : k < length s.waits.knots
    pub done : is_done (Some kn.stage) ≡ is_done (Some (knot_at s.waits.knots k).stage)
    pub failed : has_failed (Some kn.stage) ≡ has_failed (Some (knot_at s.waits.knots k).stage)
    pub runs : is_over (table.stage_at s k) ≡ false
    pub runs_on : is_over (stage_of kn.stage (operation_at s k).wait act) ≡ false
    pub value : value_of act ≡ value_of (operation_at s k).activity

  module _ (on : GoesOn) where
    pub row_is : operation_at changed k ≡ now
    row_is = get_or-set_same s.operations k now no_operation on.within

    pub knot_is : knot_at knots k ≡ kn
    knot_is = get_or-set_same s.waits.knots k kn no_knot on.there

    pub others : (j : ℕ) → ¬ (j ≡ k) → operation_at changed j ≡ operation_at s j
    others j n = get_or-set_other s.operations k j now no_operation n

    other_knots : (j : ℕ) → ¬ (j ≡ k) → knot_at knots j ≡ knot_at s.waits.knots j
    other_knots j n = get_or-set_other s.waits.knots k j kn no_knot n

    stage_else : (j : ℕ) → ¬ (j ≡ k) → stage_at knots j ≡ stage_at s.waits.knots j
    stage_else j n = λ i. cond (nat_lt j (length-set s.waits.knots k kn i)) (Some (get_or-set_other s.waits.knots k j kn no_knot n i).stage) None

    stage_here : stage_at knots k ≡ Some kn.stage
    stage_here = stage_there knots k (subst (λ x. k < x) (sym (length-set s.waits.knots k kn)) on.there) ∙ ap (λ (x : Knot). Some x.stage) knot_is

    stage_before : stage_at s.waits.knots k ≡ Some (knot_at s.waits.knots k).stage
    stage_before = stage_there s.waits.knots k on.there

    over_behind : is_over (table.stage_at changed k) ≡ false
    over_behind = (λ i. is_over (stage_of (knot_is i).stage (row_is i).wait (row_is i).activity)) ∙ on.runs_on

    pub changes : ChangesOne s rows knots turns k
    changes = record {
      size = length-set s.operations k now;
      knots = length-set s.waits.knots k kn;
      others = others;
      other_knots = other_knots;
      done = by_number k (λ j. is_done (stage_at knots j) ≡ is_done (stage_at s.waits.knots j)) (ap is_done stage_here ∙ on.done ∙ sym (ap is_done stage_before)) (λ j n. ap is_done (stage_else j n));
      failed = by_number k (λ j. has_failed (stage_at knots j) ≡ has_failed (stage_at s.waits.knots j)) (ap has_failed stage_here ∙ on.failed ∙ sym (ap has_failed stage_before))
          (λ j n. ap has_failed (stage_else j n));
      over = by_number k (λ j. is_over (table.stage_at changed j) ≡ is_over (table.stage_at s j)) (over_behind ∙ sym on.runs)
          (λ j n i. is_over (stage_of (other_knots j n i).stage (others j n i).wait (others j n i).activity));
      value = value;
      parent = by_number k (λ j. (operation_at changed j).parent ≡ (operation_at s j).parent) (ap (λ (o : Operation). o.parent) row_is) (λ j n. ap (λ (o : Operation). o.parent) (others j n));
    }
      where
        value : (o : Option OpNumber) → value_at changed o ≡ value_at s o
        value None = refl
        value (Some c) = by_number k (λ j. value_of (operation_at changed j).activity ≡ value_of (operation_at s j).activity)
            (ap (λ (o : Operation). value_of o.activity) row_is ∙ on.value) (λ j n. ap (λ (o : Operation). value_of o.activity) (others j n)) c.0

    -- ---- the operation itself

    module _ (job : Job) (who : ℕ → ℕ) (ways : List (List ℕ)) (v : List ℕ) (way_is : way_of (regent_ground (spaces_of job.code)) (machine_of job) ways k ≡ Some v) where
      abbrev G : Ground
      G = regent_ground (spaces_of job.code)

      pub seen_now : (roots : List RootId) (N : List Requirement) (f : board.Frame) (ps : List (Element G)) →
          IsSeen job.code s.tree s.map s.roots who roots (operation_at s k) N f ps → IsSeen job.code s.tree s.map s.roots who roots now N f ps
      seen_now roots = seen_as job s who roots (operation_at s k) now

      module _ (w : List ℕ) (earlier : List Sibling) (above : List RootId) (D N : List Requirement) (i : ℕ) (f : board.Frame) (ps : List (Element G)) (st : BoardStage G) (is : Items G)
          (at : v ≡ w) (h : Shows job s who ways w k earlier above (op D N i f ps st is)) where
        abbrev pub roots : List RootId
        roots = above ++ (operation_at s k).frame.own

        abbrev pub children : List Sibling
        children = siblings job (operation_at s k).children is

        -- with another stage
        pub shows_now : (to : BoardStage G) → IfRuns job to (IsSeen job.code s.tree s.map s.roots who roots now N f ps) → Stands job.code s.roots who roots changed kn.stage now N to →
            (kn.stage ≡ knot.Parked → to ≡ idle first → kn.on ≡ []) → WaitsWell job.code knots D N earlier children kn.on to →
            (was_begun kn.stage ≡ true → all_clear s.waits.knots D earlier ≡ true) → ChildrenAre job.code changed (operation_at s k).children to →
            Shows job changed who ways w k earlier above (op D N i f ps to is)
        shows_now to seen stands free waits begun all =
            let row = h.0 in
            subst (λ (o : Operation). Row job changed who ways w k earlier (above ++ o.frame.own) D N f ps to is × ShowsChildren job changed who ways w k 0 [] (above ++ o.frame.own) o.children is) (sym row_is) (
              record {
                within = subst (λ y. k < y) (sym (length-set s.operations k now)) on.within;
                knot = subst (λ y. k < y) (sym (length-set s.waits.knots k kn)) on.there;
                way_is = row.way_is;
                own = subst (λ (o : Operation). (name : ℕ → ℕ) → IsNaming s.roots who roots name → f.own ≡ map (λ (r : RootId). name r.0) o.frame.own) (sym row_is) row.own;
                seen = subst (λ (o : Operation). IfRuns job to (IsSeen job.code s.tree s.map s.roots who roots o N f ps)) (sym row_is) seen;
                said_is = row.said_is ∙ ap (λ (o : Operation). o.said) (sym row_is);
                stands = subst (λ (y : Knot). Stands job.code s.roots who roots changed y.stage (operation_at changed k) N to) (sym knot_is)
                    (subst (λ (o : Operation). Stands job.code s.roots who roots changed kn.stage o N to) (sym row_is) stands);
                free = subst (λ (y : Knot). y.stage ≡ knot.Parked → to ≡ idle first → y.on ≡ []) (sym knot_is) free;
                waits = subst (λ (y : Knot). WaitsWell job.code knots D N earlier (siblings job (operation_at changed k).children is) y.on to) (sym knot_is)
                    (subst (λ (o : Operation). WaitsWell job.code knots D N earlier (siblings job o.children is) kn.on to) (sym row_is) waits);
                begun = subst (λ (y : Knot). was_begun y.stage ≡ true → all_clear knots D earlier ≡ true) (sym knot_is)
                    (λ b. clear_kept job s rows knots turns k changes D earlier ∙ begun b);
                listed = subst (λ (o : Operation). AreListed job changed who roots k (siblings job o.children is)) (sym row_is)
                    (listed_kept job s rows knots turns k changes who ways roots k children row.listed);
                children_are = subst (λ (o : Operation). ChildrenAre job.code changed o.children to) (sym row_is) all;
              },
              children_kept job s rows knots turns k changes who ways v w k 0 [] roots (operation_at s k).children is way_is
                  (λ d b y q. not_above w d y (sym at ∙ q ∙ append_assoc w (d ∷ []) y)) h.1,
            )
