-- The operation that is out stands at its way, and what is asked of it is asked of one that is out.
use Rattle.std.proofs.Common.{◌≡◌, ◌<◌, ◌++◌, ◌∷◌, ⊎_elim, ℕ, suc, zero, List, [], length, refl, subst, sym}
use Rattle.std.specs.Prelude.{All}
use Rattle.std.proofs.lemmas.List.Elements.{All-nil}
use Rattle.region_tree.specs.Requirements.{Requirement}
use Rattle.region_tree.specs.declared.tree.OpNumber.{OpNumber}
use Rattle.region_tree.specs.declared.tree.RootId.{RootId}
use Rattle.dependence_graph.specs.Knots.{knot_at}
use Rattle.dependence_graph.specs.declared.stage.Stage.{Stage as Knotted}
use Rattle.task_code.specs.declared.job.Job.{Job}
use Rattle.machine_terms.specs.declared.frame.Before.{Before}
use Rattle.board_rules.specs.Boards.{Ending, Items, Operation as Node, Stage as BoardStage, Wait as BoardWait, at_fault, by, child_op, closing, dropped, filling, idle, no_item, op, out, over, said, stopped}
use Rattle.board_rules.specs.Ground.{Ground}
use Rattle.board_rules.specs.NumberedBoards.{Board}
use Rattle.board_rules.specs.Running.{Element}
use Rattle.regent_boards.specs.Frames as board
use Rattle.regent_boards.specs.RegentMachine.{regent_ground}
use Rattle.code_boards.specs.Views.{spaces_of}
use Rattle.board_terms.specs.declared.claim.Claim.{Claim}
use Rattle.board_terms.specs.declared.operation.Activity.{Activity}
use Rattle.board_terms.specs.declared.operation.Activity.TheVariants as activity
use Rattle.board_terms.specs.declared.operation.Ending.TheVariants as ending
use Rattle.board_terms.specs.declared.operation.Operation.{Operation}
use Rattle.board_terms.specs.States.{State, operation_at}
use Rattle.board_trees.specs.Shows.{Shows, ShowsBoard, needs_issued}
use Rattle.board_trees.specs.Stages.{HasFailed, HasValue, MayFail, Stands, WasStopped}
use Rattle.board_trees.specs.Waits.{Sibling}
use Rattle.changed_trees.specs.Changes.{IsAt}
use Rattle.changed_trees.specs.Open.{Asked, HasAmong, HasAt}
use Rattle.changed_trees.proofs.Edited.{IsShown, shown_at}

-- ---- an activity of one that is out

abbrev IsOutBy : Activity → Type 0
IsOutBy (activity.Out c b) = Unit {0}
IsOutBy _ = ⊥

module _ (job : Job) (s : State) (who : ℕ → ℕ) (roots : List RootId) (kn : Knotted) (o : Operation) (N : List Requirement) (is_out : IsOutBy o.activity) where
  abbrev G : Ground
  G = regent_ground (spaces_of job.code)

  other : {A : Type 0} (a : Activity) → o.activity ≡ a → (IsOutBy a → ⊥) → A
  other a e h = absurd (h (subst IsOutBy e is_out))

  not_failed : {A : Type 0} (a : Activity) → o.activity ≡ a → MayFail job.code a → A
  not_failed activity.Idle e h = other activity.Idle e (λ x. x)
  not_failed (activity.Closing x) e h = other (activity.Closing x) e (λ y. y)
  not_failed (activity.Filling c x) e h = absurd h
  not_failed (activity.Out c x) e h = absurd h

  not_valued : {A : Type 0} (x : Ending G) → HasValue job.code o x → A
  not_valued (by v) h = other (activity.Closing (ending.Value v.value)) h (λ y. y)
  not_valued (at_fault y) h = absurd h
  not_valued stopped h = absurd h

  not_over : {A : Type 0} (x : Ending G) → HasFailed job.code o x → A
  not_over (by v) h = absurd h
  not_over (at_fault y) h = other (activity.Closing h.own) h.activity_is (λ z. z)
  not_over stopped h = not_failed o.activity refl h

  not_stopped : {A : Type 0} (x : Ending G) → WasStopped job.code s.roots who roots o x → A
  not_stopped (by v) h = absurd h
  not_stopped (at_fault y) h = absurd h
  not_stopped stopped h = other activity.Idle h (λ y. y)

  pub only_out : {A : Type 0} (st : BoardStage G) → Stands job.code s.roots who roots s kn o N st → ((w : BoardWait G) (d : List (Element G)) → st ≡ out w d → A) → A
  only_out (idle w) h a = other activity.Idle h.1.0 (λ y. y)
  only_out (filling w d l) h a = other (activity.Filling h.1.claim h.1.fill) h.1.activity_is (λ y. y)
  only_out (out w d) h a = a w d refl
  only_out (closing x) h a = ⊎_elim (λ c. other (activity.Closing c.1.own) c.1.activity_is (λ y. y)) (λ c. not_stopped x c.1) h
  only_out (over x) h a = ⊎_elim (λ c. not_valued x c.1) (λ c. not_over x c.1) h
  only_out dropped h a = other activity.Idle h.1.0 (λ y. y)

-- ---- one that has what is asked

module _ (job : Job) (s : State) (who : ℕ → ℕ) (ways : List (List ℕ)) (B : Asked job) where
  pub record FoundAt : Type 0 where
    pub way : List ℕ
    pub number : ℕ
    pub earlier : List Sibling
    pub above : List RootId
    pub node : Node (regent_ground (spaces_of job.code))
    pub is : B way number earlier above node

  mutual
    pub found_at : (way w : List ℕ) (k : ℕ) (earlier : List Sibling) (above : List RootId) (n : Node (regent_ground (spaces_of job.code))) → HasAt job s who ways B way w k earlier above n → FoundAt
    found_at [] w k earlier above n h = record { way = w; number = k; earlier = earlier; above = above; node = n; is = h }
    found_at (c ∷ way) w k earlier above (op D N i f ps st is) h = found_among c way w k 0 [] (above ++ (operation_at s k).frame.own) (operation_at s k).children is h.1

    found_among : (c : ℕ) (way w : List ℕ) (j e : ℕ) (earlier : List Sibling) (roots : List RootId) (ks : List OpNumber) (is : Items (regent_ground (spaces_of job.code))) →
        HasAmong job s who ways B c way w j e earlier roots ks is → FoundAt
    found_among c way w j e earlier roots ks no_item h = absurd h
    found_among c way w j e earlier roots ks (said t is) h = found_among c way w j e earlier roots ks is h
    found_among c way w j e earlier roots [] (child_op n is) h = absurd h
    found_among zero way w j e earlier roots (k ∷ ks) (child_op n is) h = found_at way (w ++ e ∷ []) k.0 earlier roots n h.1
    found_among (suc c) way w j e earlier roots (k ∷ ks) (child_op n is) h =
        found_among c way w j (suc e) (earlier ++ record { op = k.0; needs = needs_issued job n } ∷ []) roots ks is h.2

-- ---- of a board

module _ (job : Job) (s : State) (b : Board (regent_ground (spaces_of job.code))) (h : ShowsBoard job s b) (k : ℕ) (v : List ℕ) (at : IsAt job b.ways k v)
    (claim : Claim) (before : Before) (act : (operation_at s k).activity ≡ activity.Out claim before) where
  abbrev pub Here : Asked job
  Here = IsShown job s h.who b.ways h.own_made k v

  pub here_at : HasAt job s h.who b.ways Here v [] 0 [] [] b.state.tree
  here_at = shown_at job s h.who b.ways h.own_made k v v [] 0 [] [] b.state.tree refl (All-nil (λ (r : RootId). r.0 < length s.roots)) (h.leads k v at) h.shows

  pub out_here : IsOutBy (operation_at s k).activity
  out_here = subst IsOutBy (sym act) tt

  -- an operation of which it is asked is the one that is out
  pub by_out : (P : Asked job) →
      ((earlier : List Sibling) (above : List RootId) (D N : List Requirement) (i : ℕ) (f : board.Frame) (ps : List (Element (regent_ground (spaces_of job.code)))) (w : BoardWait (regent_ground (spaces_of job.code)))
      (d : List (Element (regent_ground (spaces_of job.code)))) (is : Items (regent_ground (spaces_of job.code))) → All (λ (r : RootId). r.0 < length s.roots) above →
      Shows job s h.who b.ways v k earlier above (op D N i f ps (out w d) is) → P v k earlier above (op D N i f ps (out w d) is)) →
      (w : List ℕ) (j : ℕ) (earlier : List Sibling) (above : List RootId) (n : Node (regent_ground (spaces_of job.code))) → Here w j earlier above n → P w j earlier above n
  by_out P own w j earlier above (op D N i f ps st is) x =
      subst (λ w. P w j earlier above (op D N i f ps st is)) x.0
      (subst (λ j. P v j earlier above (op D N i f ps st is)) (sym x.1)
      (by_stage st (subst (λ w. Shows job s h.who b.ways w k earlier above (op D N i f ps st is)) (sym x.0)
      (subst (λ j. Shows job s h.who b.ways w j earlier above (op D N i f ps st is)) x.1 x.3))))
    where
      by_stage : (st : BoardStage (regent_ground (spaces_of job.code))) → Shows job s h.who b.ways v k earlier above (op D N i f ps st is) → P v k earlier above (op D N i f ps st is)
      by_stage st y = only_out job s h.who (above ++ (operation_at s k).frame.own) (knot_at s.waits.knots k).stage (operation_at s k) N out_here st y.0.stands
          (λ z d e. subst (λ st. P v k earlier above (op D N i f ps st is)) (sym e)
          (own earlier above D N i f ps z d is x.2 (subst (λ st. Shows job s h.who b.ways v k earlier above (op D N i f ps st is)) e y)))

  -- what is known of it by what it shows
  pub known_out : {P : Type 0} →
      ((earlier : List Sibling) (above : List RootId) (D N : List Requirement) (i : ℕ) (f : board.Frame) (ps : List (Element (regent_ground (spaces_of job.code)))) (w : BoardWait (regent_ground (spaces_of job.code)))
      (d : List (Element (regent_ground (spaces_of job.code)))) (is : Items (regent_ground (spaces_of job.code))) → All (λ (r : RootId). r.0 < length s.roots) above →
      Shows job s h.who b.ways v k earlier above (op D N i f ps (out w d) is) → P) → P
  known_out {P} own = let f = found_at job s h.who b.ways Here v [] 0 [] [] b.state.tree here_at in by_out (λ w j earlier above n. P) own f.way f.number f.earlier f.above f.node f.is
