-- A claim of an operation that is ready.
use Rattle.std.proofs.Common.{◌≡◌, ◌<◌, ◌++◌, ◌∙◌, ◌&&◌, ℕ, suc, Bool, List, None, Some, [], ap, cond, false, inl, inr, length, refl, subst, sym, true, ⊎_elim}
use Rattle.std.proofs.lemmas.Bool.{false≢true}
use Rattle.std.proofs.lemmas.List.Elements.{All-append}
use Rattle.region_tree.specs.Requirements.{Requirement}
use Rattle.region_tree.specs.declared.tree.RootId.{RootId}
use Rattle.logical_map.specs.Maps.{is_live}
use Rattle.dependence_graph.specs.Entries.{Knot}
use Rattle.dependence_graph.specs.Knots.{all_done, has_failed, is_done, is_idle, knot_at}
use Rattle.dependence_graph.specs.declared.stage.Stage.{Stage as Knotted}
use Rattle.dependence_graph.specs.declared.stage.Stage.TheVariants as knot
use Rattle.task_code.specs.declared.job.Job.{Job}
use Rattle.board_rules.specs.Boards.{Items, Operation as Node, Wait as BoardWait, child, claim, closing, dropped, filling, first, idle, is_ready, nothing, op, out, over, part, step_in, unchanged, wants}
use Rattle.board_rules.specs.Ground.{Ground}
use Rattle.board_rules.specs.NumberedBoards.{way_of}
use Rattle.board_rules.specs.Processes.{Map}
use Rattle.board_rules.specs.Running.{Element, Machine}
use Rattle.regent_boards.specs.Frames as board
use Rattle.regent_boards.specs.RegentMachine.{regent_ground}
use Rattle.code_boards.specs.Laws.{machine_of}
use Rattle.code_boards.specs.Views.{spaces_of}
use Rattle.board_terms.specs.declared.operation.Activity.{Activity}
use Rattle.board_terms.specs.declared.operation.Activity.TheVariants as activity
use Rattle.board_terms.specs.declared.operation.Wait.{Wait}
use Rattle.board_terms.specs.Claims.{claim_on, fill_for, value_of}
use Rattle.board_terms.specs.Stages.{is_over, stage_of}
use Rattle.board_terms.specs.States.{State, operation_at}
use Rattle.board_trees.specs.Names.{AreMade}
use Rattle.board_trees.specs.Shows.{HoldsMap, IsWithinRoot, Shows, siblings}
use Rattle.board_trees.specs.Stages.{MayIdle, was_begun}
use Rattle.board_trees.specs.Told.{AreOrdered}
use Rattle.board_trees.specs.Waits.{Sibling, all_clear}
use Rattle.board_trees.proofs.Along.{Leaves}
use Rattle.board_trees.proofs.Kept.{all_done_kept, awaits_kept}
use Rattle.board_trees.proofs.Open.{IsTold, WereMade, ready_told}
use Rattle.board_trees.proofs.Settled.{wait_open}
use Rattle.board_trees.proofs.Told.{waits_are_told}
use Rattle.claimed_trees.proofs.Changed.{GoesOn, changes, knots, rows, seen_now, shows_now}
use Rattle.claimed_trees.proofs.Started.{fill_starts}

module _ (job : Job) (s : State) (k seat : ℕ) where
  abbrev G : Ground
  G = regent_ground (spaces_of job.code)

  abbrev pub filling_now : Activity
  filling_now = activity.Filling (claim_on s k seat) (fill_for s (operation_at s k) (operation_at s k).wait)

  abbrev pub begun_now : Knot
  begun_now = record { parent = (knot_at s.waits.knots k).parent; on = (knot_at s.waits.knots k).on; stage = knot.Begun }

  -- ---- an idle operation

  pub record IsFree (st : Knotted) (a : Activity) : Type 0 where
    pub idle_is : is_idle st ≡ true
    pub done : is_done (Some st) ≡ false
    pub failed : has_failed (Some st) ≡ false
    pub activity_is : a ≡ activity.Idle
    pub open_is : (w : Wait) → is_over (stage_of st w a) ≡ false

  waiting_free : (st : Knotted) (a : Activity) → st ≡ knot.Waiting → a ≡ activity.Idle → IsFree st a
  waiting_free st a e f = subst (λ x. IsFree x a) (sym e) (record { idle_is = refl; done = refl; failed = refl; activity_is = f; open_is = λ w. refl })

  parked_free : (st : Knotted) (a : Activity) → st ≡ knot.Parked → a ≡ activity.Idle → IsFree st a
  parked_free st a e f = subst (λ x. IsFree x a) (sym e) (record { idle_is = refl; done = refl; failed = refl; activity_is = f; open_is = wait_open })

  free : (who : ℕ → ℕ) (roots : List RootId) (st : Knotted) (a : Activity) (w : BoardWait G) → MayIdle job.code s.roots who roots st w → a ≡ activity.Idle → IsFree st a
  free who roots st a first (inl h) e = waiting_free st a h e
  free who roots st a first (inr h) e = parked_free st a h e
  free who roots st a nothing h e = parked_free st a h e
  free who roots st a (part x) h e = parked_free st a h e
  free who roots st a (child c) h e = parked_free st a h e

  module _ (who : ℕ → ℕ) (ways : List (List ℕ)) where
    idle_never : {A : Type 0} (x : Knotted) → (knot_at s.waits.knots k).stage ≡ x → is_idle x ≡ false → is_idle (knot_at s.waits.knots k).stage ≡ true → A
    idle_never x e f t = absurd (false≢true (sym (ap is_idle e ∙ f) ∙ t))

    -- where the graph says that it is idle, so does the tree
    pub idle_told : (w : List ℕ) (earlier : List Sibling) (above : List RootId) (n : Node G) → Shows job s who ways w k earlier above n → is_idle (knot_at s.waits.knots k).stage ≡ true →
        IsFree (knot_at s.waits.knots k).stage (operation_at s k).activity
    idle_told w earlier above (op D N i f ps (idle x) is) h t = free who (above ++ (operation_at s k).frame.own) (knot_at s.waits.knots k).stage (operation_at s k).activity x h.0.stands.0 h.0.stands.1.0
    idle_told w earlier above (op D N i f ps (filling x d l) is) h t = idle_never knot.Begun h.0.stands.0 refl t
    idle_told w earlier above (op D N i f ps (out x d) is) h t = idle_never knot.Begun h.0.stands.0 refl t
    idle_told w earlier above (op D N i f ps (closing x) is) h t = ⊎_elim (λ c. idle_never knot.Begun c.0 refl t) (λ c. idle_never knot.Stopped c.0 refl t) h.0.stands
    idle_told w earlier above (op D N i f ps (over x) is) h t = ⊎_elim (λ c. idle_never knot.Done c.0 refl t) (λ c. idle_never knot.Failed c.0 refl t) h.0.stands
    idle_told w earlier above (op D N i f ps dropped is) h t = idle_never knot.Dropped h.0.stands.0 refl t

    module _ (makings : ℕ) (m : Map G) where
      abbrev M : Machine G
      M = machine_of job makings

      abbrev ready : Bool
      ready = is_idle (knot_at s.waits.knots k).stage && all_done s.waits.knots (knot_at s.waits.knots k).on

      -- ---- one that isn't ready can't be claimed

      not_ready : (a b c : Bool) → (a && b) ≡ false → a ≡ true → b ≡ c → c ≡ false
      not_ready true b c e t q = sym q ∙ e
      not_ready false b c e t q = absurd (false≢true t)

      pub claim_refused : ready ≡ false → (w : List ℕ) (earlier : List Sibling) (above : List RootId) (p : List ℕ) (before : Bool) (n : Node G) → Shows job s who ways w k earlier above n →
          IsTold job s earlier above before n → step_in G M claim [] p before m n ≡ None
      claim_refused e w earlier above p before (op D N i f ps (idle x) is) h t =
          let free_here = free who (above ++ (operation_at s k).frame.own) (knot_at s.waits.knots k).stage (operation_at s k).activity x h.0.stands.0 h.0.stands.1.0 in
          let same = ready_told job s who ways makings w k D N earlier (above ++ (operation_at s k).frame.own) (operation_at s k).children is x (knot_at s.waits.knots k).on before h.1 h.0.waits.0 t.ordered t.clear in
          ap (λ b. cond b (unchanged G M (op D N i f ps (filling x [] (wants G M N x)) is)) None)
          (not_ready (is_idle (knot_at s.waits.knots k).stage) (all_done s.waits.knots (knot_at s.waits.knots k).on) (is_ready G M before N x is) e free_here.idle_is same)
      claim_refused e w earlier above p before (op D N i f ps (filling x d l) is) h t = refl
      claim_refused e w earlier above p before (op D N i f ps (out x d) is) h t = refl
      claim_refused e w earlier above p before (op D N i f ps (closing x) is) h t = refl
      claim_refused e w earlier above p before (op D N i f ps (over x) is) h t = refl
      claim_refused e w earlier above p before (op D N i f ps dropped is) h t = refl

    -- ---- and one that is ready is filled

    module _ (within : k < length s.operations) (there : k < length s.waits.knots) (is_free : IsFree (knot_at s.waits.knots k).stage (operation_at s k).activity) where
      pub goes_on : GoesOn s k filling_now begun_now (suc s.turns)
      goes_on = record {
        within = within;
        there = there;
        done = sym is_free.done;
        failed = sym is_free.failed;
        runs = is_free.open_is (operation_at s k).wait;
        runs_on = refl;
        value = ap value_of (sym is_free.activity_is);
      }

      module _ (v : List ℕ) (way_is : way_of G (machine_of job) ways k ≡ Some v) (makings : ℕ) (m : Map G) (done : all_done s.waits.knots (knot_at s.waits.knots k).on ≡ true)
          (made : AreMade (length s.roots) who makings) (regions : (node : ℕ) → node < length s.tree.nodes → IsWithinRoot job s.tree s.roots node)
          (held : (root : ℕ) → is_live s.map root ≡ true → HoldsMap job s.map s.roots who m root) (own_made : (j : ℕ) → WereMade job s (operation_at s j).frame.own) where
        abbrev OwnLeaves : List ℕ → List Sibling → List RootId → List ℕ → Bool → Node G → Type 0
        OwnLeaves w earlier above p before n =
            Leaves job s who ways k goes_on.runs (rows s k filling_now begun_now (suc s.turns)) (knots s k filling_now begun_now (suc s.turns)) (suc s.turns)
            (changes s k filling_now begun_now (suc s.turns) goes_on) v way_is claim makings m [] w k earlier above n (step_in G (machine_of job makings) claim [] p before m n)

        -- what it waited for before it began has ended
        claim_clear : (w : List ℕ) (earlier : List Sibling) (above : List RootId) (D N : List Requirement) (i : ℕ) (f : board.Frame) (ps : List (Element G)) (x : BoardWait G) (is : Items G) →
            Shows job s who ways w k earlier above (op D N i f ps (idle x) is) → AreOrdered s.waits.knots earlier → all_clear s.waits.knots D earlier ≡ true
        claim_clear w earlier above D N i f ps first is h o = sym (waits_are_told s.waits.knots D earlier (knot_at s.waits.knots k).on o h.0.waits.0).ready ∙ done
        claim_clear w earlier above D N i f ps nothing is h o = h.0.begun (ap was_begun h.0.stands.0)
        claim_clear w earlier above D N i f ps (part y) is h o = h.0.begun (ap was_begun h.0.stands.0)
        claim_clear w earlier above D N i f ps (child y) is h o = h.0.begun (ap was_begun h.0.stands.0)

        pub own_claim : (w : List ℕ) (earlier : List Sibling) (above : List RootId) (p : List ℕ) (before : Bool) (n : Node G) → v ≡ w → Shows job s who ways w k earlier above n →
            IsTold job s earlier above before n → OwnLeaves w earlier above p before n
        own_claim w earlier above p before (op D N i f ps (idle x) is) e h t =
            let roots = above ++ (operation_at s k).frame.own in
            let children = siblings job (operation_at s k).children is in
            let same = ready_told job s who ways makings w k D N earlier roots (operation_at s k).children is x (knot_at s.waits.knots k).on before h.1 h.0.waits.0 t.ordered t.clear in
            let were = All-append (λ (r : RootId). r.0 < length s.roots) above (operation_at s k).frame.own t.made (own_made k) in
            record {
              left = op D N i f ps (filling x [] (wants G (machine_of job makings) N x)) is;
              steps = ap (λ b. cond b (unchanged G (machine_of job makings) (op D N i f ps (filling x [] (wants G (machine_of job makings) N x)) is)) None) (sym same ∙ done);
              shows = shows_now s k filling_now begun_now (suc s.turns) goes_on job who ways v way_is w earlier above D N i f ps (idle x) is e h (filling x [] (wants G (machine_of job makings) N x))
                  (seen_now s k filling_now begun_now (suc s.turns) goes_on job who ways v way_is roots N f ps h.0.seen) (
                    refl,
                    record {
                      waits = h.0.stands.1.1;
                      claim = claim_on s k seat;
                      fill = fill_for s (operation_at s k) (operation_at s k).wait;
                      activity_is = refl;
                      fills = fill_starts job s who makings m made regions held roots were (operation_at s k) N f ps h.0.seen (operation_at s k).wait x h.0.stands.1.1;
                    },
                  )
                  (λ q r. let other : knot.Begun ≡ knot.Parked = q in cc) (
                    awaits_kept job s (rows s k filling_now begun_now (suc s.turns)) (knots s k filling_now begun_now (suc s.turns)) (suc s.turns) k (changes s k filling_now begun_now (suc s.turns) goes_on) D N earlier children x
                        (knot_at s.waits.knots k).on h.0.waits.0,
                    all_done_kept job s (rows s k filling_now begun_now (suc s.turns)) (knots s k filling_now begun_now (suc s.turns)) (suc s.turns) k (changes s k filling_now begun_now (suc s.turns) goes_on) (knot_at s.waits.knots k).on ∙ done,
                  )
                  (λ q. claim_clear w earlier above D N i f ps x is h t.ordered)
                  tt;
              needs = refl;
              children = refl;
              made = refl;
            }
        own_claim w earlier above p before (op D N i f ps (filling x d l) is) e h t = idle_never knot.Begun h.0.stands.0 refl is_free.idle_is
        own_claim w earlier above p before (op D N i f ps (out x d) is) e h t = idle_never knot.Begun h.0.stands.0 refl is_free.idle_is
        own_claim w earlier above p before (op D N i f ps (closing x) is) e h t = ⊎_elim (λ c. idle_never knot.Begun c.0 refl is_free.idle_is) (λ c. idle_never knot.Stopped c.0 refl is_free.idle_is) h.0.stands
        own_claim w earlier above p before (op D N i f ps (over x) is) e h t = ⊎_elim (λ c. idle_never knot.Done c.0 refl is_free.idle_is) (λ c. idle_never knot.Failed c.0 refl is_free.idle_is) h.0.stands
        own_claim w earlier above p before (op D N i f ps dropped is) e h t = idle_never knot.Dropped h.0.stands.0 refl is_free.idle_is
