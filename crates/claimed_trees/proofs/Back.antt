-- A claim that is taken back.
use Rattle.std.proofs.Common.{◌≡◌, ◌<◌, ◌++◌, ◌∷◌, ◌∙◌, ◌&&◌, ◌||◌, ℕ, zero, suc, Bool, List, Some, [], ap, inl, inr, length, not, refl, subst, sym, true, ⊎_elim}
use Rattle.std.specs.Prelude.{filter}
use Rattle.std.specs.List.{list_any}
use Rattle.std.proofs.lemmas.Bool.{and_parts, cases_lt, or_cases, or_left, or_right}
use Rattle.std.proofs.lemmas.List.{get_or_past}
use Rattle.region_tree.specs.Requirements.{Requirement, interfere, is_of}
use Rattle.region_tree.specs.declared.tree.OpNumber.{OpNumber}
use Rattle.region_tree.specs.declared.tree.RootId.{RootId}
use Rattle.dependence_graph.specs.Entries.{Knot}
use Rattle.dependence_graph.specs.Knots.{all_done, has_failed, is_done, knot_at, stage_at}
use Rattle.dependence_graph.specs.declared.stage.Stage.TheVariants as knot
use Rattle.task_code.specs.declared.job.Job.{Job}
use Rattle.board_rules.specs.Boards.{Ending as BoardEnding, Items, Operation as Node, Stage as BoardStage, Wait as BoardWait, at_fault, back, by, child, closing, dropped, filling, first, idle, nothing, op, out, over, part, step_in, stopped}
use Rattle.board_rules.specs.Ground.{Ground}
use Rattle.board_rules.specs.NumberedBoards.{way_of}
use Rattle.board_rules.specs.Processes.{Map}
use Rattle.board_rules.specs.Running.{Element}
use Rattle.regent_boards.specs.Frames as board
use Rattle.regent_boards.specs.RegentMachine.{regent_ground}
use Rattle.code_boards.specs.Laws.{machine_of}
use Rattle.code_boards.specs.Views.{spaces_of}
use Rattle.board_terms.specs.declared.operation.Activity.{Activity}
use Rattle.board_terms.specs.declared.operation.Activity.TheVariants as activity
use Rattle.board_terms.specs.declared.operation.Ending.TheVariants as ending
use Rattle.board_terms.specs.declared.operation.Operation.{Operation}
use Rattle.board_terms.specs.Claims.{value_of}
use Rattle.board_terms.specs.Stages.{is_over, stage_of}
use Rattle.board_terms.specs.States.{State, no_operation, operation_at}
use Rattle.board_trees.specs.Frames.{IsSeen}
use Rattle.board_trees.specs.Shows.{Shows, siblings}
use Rattle.board_trees.specs.Stages.{AwaitsOn, HasFailed, HasValue, HasWait, MayFail, MayIdle, WasStopped, was_begun}
use Rattle.board_trees.specs.Told.{AreOrdered}
use Rattle.board_trees.specs.Waits.{Sibling, WaitsFor, WaitsForChild, all_clear, has_ended, is_spared}
use Rattle.board_trees.proofs.Along.{Leaves}
use Rattle.claimed_trees.proofs.Changed.{GoesOn, changed, changes, knots, rows, seen_now, shows_now}
use Rattle.board_trees.proofs.Kept.{awaits_kept}
use Rattle.board_trees.proofs.Open.{IsTold}
use Rattle.board_trees.proofs.Ordered.{children_ordered}
use Rattle.board_trees.proofs.Settled.{activity_open, wait_open}
use Rattle.board_trees.proofs.Told.{waits_are_told}

-- a seat has it
abbrev pub IsClaimed : Activity → Type 0
IsClaimed (activity.Filling claim fill) = Unit {0}
IsClaimed (activity.Out claim before) = Unit {0}
IsClaimed _ = ⊥

claimed_value : (a : Activity) → IsClaimed a → value_of activity.Idle ≡ value_of a
claimed_value activity.Idle h = absurd h
claimed_value (activity.Filling claim fill) h = refl
claimed_value (activity.Out claim before) h = refl
claimed_value (activity.Closing e) h = absurd h

-- only what was issued
pub claimed_within : (s : State) (k : ℕ) → IsClaimed (operation_at s k).activity → k < length s.operations
claimed_within s k claim = ⊎_elim (λ l. l) (λ l. absurd (subst IsClaimed (ap (λ (o : Operation). o.activity) (get_or_past s.operations k no_operation l)) claim)) (cases_lt k (length s.operations))

-- ---- what is waited for no more

all_clear_waits : (ks : List Knot) (Q : List Requirement) (xs : List Sibling) → all_clear ks Q xs ≡ true → WaitsFor ks Q xs []
all_clear_waits ks Q [] e = refl
all_clear_waits ks Q (x ∷ xs) e =
    let parts = and_parts (has_ended ks x.op || not (interfere x.needs Q)) (all_clear ks Q xs) e in
    inl (
      ⊎_elim
          (λ t. or_left (has_ended ks x.op) (is_spared Q x xs) t)
          (λ t. or_right (has_ended ks x.op) (is_spared Q x xs)
          (or_left (not (interfere x.needs Q)) (list_any (λ (y : Sibling). interfere y.needs Q && interfere x.needs y.needs) xs) t))
          (or_cases (has_ended ks x.op) (not (interfere x.needs Q)) parts.0),
      all_clear_waits ks Q xs parts.1,
    )

waits_no_more : (ks : List Knot) (Q : List Requirement) (xs : List Sibling) (on : List OpNumber) → AreOrdered ks xs → WaitsFor ks Q xs on → all_done ks on ≡ true → WaitsFor ks Q xs []
waits_no_more ks Q xs on o h e = all_clear_waits ks Q xs (sym (waits_are_told ks Q xs on o h).ready ∙ e)

child_no_more : (ks : List Knot) (c : ℕ) (xs : List Sibling) (on : List OpNumber) → WaitsForChild ks c xs on → all_done ks on ≡ true → WaitsForChild ks c xs []
child_no_more ks c [] on h e = refl
child_no_more ks zero (x ∷ xs) on (inl h) e = inr (refl, (and_parts (is_done (stage_at ks x.op)) true (ap (all_done ks) (sym h) ∙ e)).0)
child_no_more ks zero (x ∷ xs) on (inr h) e = inr (refl, h.1)
child_no_more ks (suc c) (x ∷ xs) on h e = child_no_more ks c xs on h e

module _ (job : Job) (s : State) (k : ℕ) where
  abbrev G : Ground
  G = regent_ground (spaces_of job.code)

  abbrev pub parked : Knot
  parked = record { parent = (knot_at s.waits.knots k).parent; on = []; stage = knot.Parked }

  awaits_no_more : (D N : List Requirement) (earlier children : List Sibling) (w : BoardWait G) (on : List OpNumber) → AreOrdered s.waits.knots earlier → AreOrdered s.waits.knots children →
      AwaitsOn job.code s.waits.knots D N earlier children w on → all_done s.waits.knots on ≡ true → AwaitsOn job.code s.waits.knots D N earlier children w []
  awaits_no_more D N earlier children first on o c h e = waits_no_more s.waits.knots D earlier on o h e
  awaits_no_more D N earlier children nothing on o c h e = refl
  awaits_no_more D N earlier children (part x) on o q h e = waits_no_more s.waits.knots (filter (is_of x.root x.field) N) children on q h e
  awaits_no_more D N earlier children (child c) on o q h e = child_no_more s.waits.knots c children on h e

  may_idle : (who : ℕ → ℕ) (roots : List RootId) (w : BoardWait G) → MayIdle job.code s.roots who roots knot.Parked w
  may_idle who roots first = inr refl
  may_idle who roots nothing = refl
  may_idle who roots (part x) = refl
  may_idle who roots (child c) = refl

  module _ (claim : IsClaimed (operation_at s k).activity) where
    unclaimed : {A : Type 0} (a : Activity) → (operation_at s k).activity ≡ a → (IsClaimed a → ⊥) → A
    unclaimed a e h = absurd (h (subst IsClaimed e claim))

    -- ---- what is claimed has begun

    abbrev HasBegun : Type 0
    HasBegun = (knot_at s.waits.knots k).stage ≡ knot.Begun

    module _ (who : ℕ → ℕ) (ways : List (List ℕ)) where
      stopped_begun : (roots : List RootId) (x : BoardEnding G) → WasStopped job.code s.roots who roots (operation_at s k) x → HasBegun
      stopped_begun roots (by v) q = absurd q
      stopped_begun roots (at_fault y) q = absurd q
      stopped_begun roots stopped q = unclaimed activity.Idle q (λ y. y)

      value_begun : (x : BoardEnding G) → HasValue job.code (operation_at s k) x → HasBegun
      value_begun (by v) q = unclaimed (activity.Closing (ending.Value v.value)) q (λ y. y)
      value_begun (at_fault y) q = absurd q
      value_begun stopped q = absurd q

      fail_begun : (a : Activity) → (operation_at s k).activity ≡ a → MayFail job.code a → HasBegun
      fail_begun activity.Idle e q = unclaimed activity.Idle e (λ y. y)
      fail_begun (activity.Closing y) e q = unclaimed (activity.Closing y) e (λ z. z)
      fail_begun (activity.Filling c y) e q = absurd q
      fail_begun (activity.Out c y) e q = absurd q

      failed_begun : (x : BoardEnding G) → HasFailed job.code (operation_at s k) x → HasBegun
      failed_begun (by v) q = absurd q
      failed_begun (at_fault y) q = unclaimed (activity.Closing q.own) q.activity_is (λ z. z)
      failed_begun stopped q = fail_begun (operation_at s k).activity refl q

      pub has_begun : (w : List ℕ) (earlier : List Sibling) (above : List RootId) (n : Node G) → Shows job s who ways w k earlier above n → HasBegun
      has_begun w earlier above (op D N i f ps (idle x) is) h = unclaimed activity.Idle h.0.stands.1.0 (λ c. c)
      has_begun w earlier above (op D N i f ps (filling x d l) is) h = h.0.stands.0
      has_begun w earlier above (op D N i f ps (out x d) is) h = h.0.stands.0
      has_begun w earlier above (op D N i f ps (closing x) is) h = ⊎_elim (λ c. c.0) (λ c. stopped_begun (above ++ (operation_at s k).frame.own) x c.1) h.0.stands
      has_begun w earlier above (op D N i f ps (over x) is) h = ⊎_elim (λ c. value_begun x c.1) (λ c. failed_begun x c.1) h.0.stands
      has_begun w earlier above (op D N i f ps dropped is) h = unclaimed activity.Idle h.0.stands.1.0 (λ c. c)

    -- ---- one row changes

    module _ (within : k < length s.operations) (there : k < length s.waits.knots) (begun : HasBegun) where
      pub goes_on : GoesOn s k activity.Idle parked s.turns
      goes_on = record {
        within = within;
        there = there;
        done = ap (λ x. is_done (Some x)) (sym begun);
        failed = ap (λ x. has_failed (Some x)) (sym begun);
        runs = ap (λ x. is_over (stage_of x (operation_at s k).wait (operation_at s k).activity)) begun ∙ activity_open (operation_at s k).activity;
        runs_on = wait_open (operation_at s k).wait;
        value = claimed_value (operation_at s k).activity claim;
      }

      module _ (who : ℕ → ℕ) (ways : List (List ℕ)) (v : List ℕ) (way_is : way_of G (machine_of job) ways k ≡ Some v) where
        -- it waits as before the claim
        idle_now : (w : List ℕ) (earlier : List Sibling) (above : List RootId) (D N : List Requirement) (i : ℕ) (f : board.Frame) (ps : List (Element G)) (st : BoardStage G) (x : BoardWait G) (is : Items G) (e : v ≡ w)
            (h : Shows job s who ways w k earlier above (op D N i f ps st is)) → AreOrdered s.waits.knots earlier →
            IsSeen job.code s.tree s.map s.roots who (above ++ (operation_at s k).frame.own) (operation_at s k) N f ps →
            HasWait job.code s.roots who (above ++ (operation_at s k).frame.own) (operation_at s k) x →
            AwaitsOn job.code s.waits.knots D N earlier (siblings job (operation_at s k).children is) x (knot_at s.waits.knots k).on →
            all_done s.waits.knots (knot_at s.waits.knots k).on ≡ true →
            Shows job (changed s k activity.Idle parked s.turns) who ways w k earlier above (op D N i f ps (idle x) is)
        idle_now w earlier above D N i f ps st x is e h ordered seen waits awaits done =
            let roots = above ++ (operation_at s k).frame.own in
            let children = siblings job (operation_at s k).children is in
            shows_now s k activity.Idle parked s.turns goes_on job who ways v way_is w earlier above D N i f ps st is e h (idle x)
            (seen_now s k activity.Idle parked s.turns goes_on job who ways v way_is roots N f ps seen)
            (may_idle who roots x, (refl, waits))
            (λ p q. refl) (
              awaits_kept job s (rows s k activity.Idle parked s.turns) (knots s k activity.Idle parked s.turns) s.turns k (changes s k activity.Idle parked s.turns goes_on) D N earlier children x []
                  (awaits_no_more D N earlier children x (knot_at s.waits.knots k).on ordered (children_ordered job s who ways w k 0 [] roots (operation_at s k).children is h.1 tt) awaits done),
              refl,
            ) (λ q. h.0.begun (ap was_begun begun)) tt

        module _ (makings : ℕ) (m : Map G) where
          pub own_back : (w : List ℕ) (earlier : List Sibling) (above : List RootId) (p : List ℕ) (before : Bool) (n : Node G) → v ≡ w → Shows job s who ways w k earlier above n →
              IsTold job s earlier above before n →
              Leaves job s who ways k goes_on.runs (rows s k activity.Idle parked s.turns) (knots s k activity.Idle parked s.turns) s.turns (changes s k activity.Idle parked s.turns goes_on) v way_is back makings m
              [] w k earlier above n (step_in G (machine_of job makings) back [] p before m n)
          own_back w earlier above p before (op D N i f ps (filling x d l) is) e h t = record {
            left = op D N i f ps (idle x) is;
            steps = refl;
            shows = idle_now w earlier above D N i f ps (filling x d l) x is e h t.ordered h.0.seen h.0.stands.1.waits h.0.waits.0 h.0.waits.1;
            needs = refl;
            children = refl;
            made = refl;
          }
          own_back w earlier above p before (op D N i f ps (out x d) is) e h t = record {
            left = op D N i f ps (idle x) is;
            steps = refl;
            shows = idle_now w earlier above D N i f ps (out x d) x is e h t.ordered h.0.seen h.0.stands.1.waits h.0.waits.0 h.0.waits.1;
            needs = refl;
            children = refl;
            made = refl;
          }
          own_back w earlier above p before (op D N i f ps (idle x) is) e h t = unclaimed activity.Idle h.0.stands.1.0 (λ c. c)
          own_back w earlier above p before (op D N i f ps (closing x) is) e h t = absurd (⊎_elim (λ c. unclaimed (activity.Closing c.1.own) c.1.activity_is (λ y. y)) (λ c. stage_differs (sym begun ∙ c.0)) h.0.stands)
            where
              stage_differs : knot.Begun ≡ knot.Stopped → ⊥
              stage_differs q = cc
          own_back w earlier above p before (op D N i f ps (over x) is) e h t = absurd (⊎_elim (λ c. done_differs (sym begun ∙ c.0)) (λ c. failed_differs (sym begun ∙ c.0)) h.0.stands)
            where
              done_differs : knot.Begun ≡ knot.Done → ⊥
              done_differs q = cc

              failed_differs : knot.Begun ≡ knot.Failed → ⊥
              failed_differs q = cc
          own_back w earlier above p before (op D N i f ps dropped is) e h t = unclaimed activity.Idle h.0.stands.1.0 (λ c. c)
