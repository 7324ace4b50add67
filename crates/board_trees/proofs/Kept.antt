-- What a tree shows goes on to be shown by rows that stay.
use Rattle.std.proofs.Common.{◌≡◌, ◌<◌, ◌≤◌, ◌++◌, ◌∷◌, ◌∙◌, ◌&&◌, ◌||◌, ℕ, zero, suc, List, Option, Some, [], ap, inl, inr, length, map, not, refl, subst, sym, true, arith, append_assoc}
use Rattle.std.specs.Prelude.{filter, slice_get}
use Rattle.std.proofs.lemmas.Bool.{cases_eq}
use Rattle.std.proofs.lemmas.List.{append-nil}
use Rattle.region_tree.specs.Requirements.{Requirement, interfere, is_of}
use Rattle.region_tree.specs.declared.tree.OpNumber.{OpNumber}
use Rattle.region_tree.specs.declared.tree.RootId.{RootId}
use Rattle.logical_map.specs.Fills.{Filling}
use Rattle.dependence_graph.specs.Entries.{Knot}
use Rattle.dependence_graph.specs.Knots.{all_done, has_failed, is_done, knot_at, some_failed, stage_at}
use Rattle.dependence_graph.specs.declared.stage.Stage.{Stage as Knotted}
use Rattle.dependence_graph.specs.declared.stage.Stage.TheVariants as knot
use Rattle.task_code.specs.declared.job.Job.{Job}
use Rattle.machine_terms.specs.Orders.{settled}
use Rattle.board_rules.specs.Boards.{Items, Operation as Node, Stage as BoardStage, Wait as BoardWait, child, child_op, closing, dropped, filling, first, idle, no_item, nothing, op, out, over, part, said}
use Rattle.board_rules.specs.Ground.{Ground}
use Rattle.board_rules.specs.NumberedBoards.{way_of}
use Rattle.board_rules.specs.Running.{Element}
use Rattle.regent_boards.specs.Frames as board
use Rattle.regent_boards.specs.RegentMachine.{regent_ground}
use Rattle.code_boards.specs.Laws.{machine_of}
use Rattle.code_boards.specs.Views.{spaces_of}
use Rattle.board_terms.specs.declared.operation.Activity.TheVariants as activity
use Rattle.board_terms.specs.declared.operation.Operation.{Operation}
use Rattle.board_terms.specs.declared.operation.Wait.{Wait}
use Rattle.board_terms.specs.declared.operation.Wait.TheVariants as wait
use Rattle.board_terms.specs.Claims.{before_of, frame_behind, value_at}
use Rattle.board_terms.specs.Closings.{all_over}
use Rattle.board_terms.specs.Stages.{is_over}
use Rattle.board_terms.specs.Stages as table
use Rattle.board_terms.specs.States.{State, operation_at}
use Rattle.board_trees.specs.Shows.{AreListed, IfRuns, IsChild, Row, Shows, ShowsChildren, needs_issued, siblings}
use Rattle.board_trees.specs.Frames.{IsSeen}
use Rattle.board_trees.specs.Names.{IsNaming}
use Rattle.board_trees.specs.Stages.{AwaitsOn, ChildrenAre, Stands, WaitsWell, was_begun}
use Rattle.board_trees.specs.Waits.{Sibling, WaitsFor, WaitsForChild, all_clear, is_spared}

-- of another number, or of this one
pub by_number : (k : ℕ) (P : ℕ → Type 0) → P k → ((j : ℕ) → ¬ (j ≡ k) → P j) → (j : ℕ) → P j
by_number k P here others j = elim (cases_eq j k) [ inl e ↦ subst P (sym e) here | inr e ↦ others j e ]

-- what is seen of one is seen of another with its frame and parts
pub seen_as : (job : Job) (s : State) (who : ℕ → ℕ) (roots : List RootId) (o q : Operation) (N : List Requirement) (f : board.Frame) (ps : List (Element (regent_ground (spaces_of job.code)))) →
    IsSeen job.code s.tree s.map s.roots who roots o N f ps → IsSeen job.code s.tree s.map s.roots who roots (record q { frame = o.frame; parts = o.parts }) N f ps
seen_as job s who roots o q N f ps h = record {
  frame = h.frame;
  needs = h.needs;
  required = h.required;
  parts = h.parts;
  held = h.held;
  fitting = h.fitting;
  once = h.once;
  placed = h.placed;
  there = h.there;
  fields = h.fields;
}

-- the state with other rows
abbrev pub with_rows : State → List Operation → List Knot → ℕ → State
with_rows s os ks turns = record s { operations = os; waits = record { knots = ks; listing = s.waits.listing }; turns = turns }

-- One row changes, of one that hasn't ended: what others see of it stays.
pub record ChangesOne (s : State) (os : List Operation) (ks : List Knot) (turns k : ℕ) : Type 0 where
  pub size : length os ≡ length s.operations
  pub knots : length ks ≡ length s.waits.knots
  pub others : (j : ℕ) → ¬ (j ≡ k) → operation_at (with_rows s os ks turns) j ≡ operation_at s j
  pub other_knots : (j : ℕ) → ¬ (j ≡ k) → knot_at ks j ≡ knot_at s.waits.knots j
  pub done : (j : ℕ) → is_done (stage_at ks j) ≡ is_done (stage_at s.waits.knots j)
  pub failed : (j : ℕ) → has_failed (stage_at ks j) ≡ has_failed (stage_at s.waits.knots j)
  pub over : (j : ℕ) → is_over (table.stage_at (with_rows s os ks turns) j) ≡ is_over (table.stage_at s j)
  pub value : (o : Option OpNumber) → value_at (with_rows s os ks turns) o ≡ value_at s o
  pub parent : (j : ℕ) → (operation_at (with_rows s os ks turns) j).parent ≡ (operation_at s j).parent

module _ (job : Job) (s : State) (os : List Operation) (ks : List Knot) (turns k : ℕ) (change : ChangesOne s os ks turns k) where
  abbrev G : Ground
  G = regent_ground (spaces_of job.code)

  abbrev u : State
  u = with_rows s os ks turns

  -- ---- what is waited for

  pub all_done_kept : (on : List OpNumber) → all_done ks on ≡ all_done s.waits.knots on
  all_done_kept [] = refl
  all_done_kept (o ∷ on) = λ i. change.done o.0 i && all_done_kept on i

  some_failed_kept : (on : List OpNumber) → some_failed ks on ≡ some_failed s.waits.knots on
  some_failed_kept [] = refl
  some_failed_kept (o ∷ on) = λ i. change.failed o.0 i || some_failed_kept on i

  all_over_kept : (on : List OpNumber) → all_over u on ≡ all_over s on
  all_over_kept [] = refl
  all_over_kept (o ∷ on) = λ i. change.over o.0 i && all_over_kept on i

  pub waits_for_kept : (Q : List Requirement) (xs : List Sibling) (on : List OpNumber) → WaitsFor s.waits.knots Q xs on → WaitsFor ks Q xs on
  waits_for_kept Q [] on h = h
  waits_for_kept Q (x ∷ xs) on (inl h) = inl (ap (λ b. b || is_spared Q x xs) (change.done x.op) ∙ h.0, waits_for_kept Q xs on h.1)
  waits_for_kept Q (x ∷ xs) on (inr h) = inr (h.0, h.1, h.2, waits_for_kept Q xs h.0 h.3)

  pub clear_kept : (Q : List Requirement) (xs : List Sibling) → all_clear ks Q xs ≡ all_clear s.waits.knots Q xs
  clear_kept Q [] = refl
  clear_kept Q (x ∷ xs) = λ i. (change.done x.op i || not (interfere x.needs Q)) && clear_kept Q xs i

  waits_for_child_kept : (c : ℕ) (xs : List Sibling) (on : List OpNumber) → WaitsForChild s.waits.knots c xs on → WaitsForChild ks c xs on
  waits_for_child_kept c [] on h = h
  waits_for_child_kept zero (x ∷ xs) on (inl h) = inl h
  waits_for_child_kept zero (x ∷ xs) on (inr h) = inr (h.0, change.done x.op ∙ h.1)
  waits_for_child_kept (suc c) (x ∷ xs) on h = waits_for_child_kept c xs on h

  pub awaits_kept : (D N : List Requirement) (earlier children : List Sibling) (w : BoardWait G) (on : List OpNumber) →
      AwaitsOn job.code s.waits.knots D N earlier children w on → AwaitsOn job.code ks D N earlier children w on
  awaits_kept D N earlier children first on h = waits_for_kept D earlier on h
  awaits_kept D N earlier children nothing on h = h
  awaits_kept D N earlier children (part x) on h = waits_for_kept (filter (is_of x.root x.field) N) children on h
  awaits_kept D N earlier children (child c) on h = waits_for_child_kept c children on h

  waits_well_kept : (D N : List Requirement) (earlier children : List Sibling) (on : List OpNumber) (st : BoardStage G) →
      WaitsWell job.code s.waits.knots D N earlier children on st → WaitsWell job.code ks D N earlier children on st
  waits_well_kept D N earlier children on (idle w) h = (awaits_kept D N earlier children w on h.0, some_failed_kept on ∙ h.1)
  waits_well_kept D N earlier children on (filling w d l) h = (awaits_kept D N earlier children w on h.0, all_done_kept on ∙ h.1)
  waits_well_kept D N earlier children on (out w d) h = (awaits_kept D N earlier children w on h.0, all_done_kept on ∙ h.1)
  waits_well_kept D N earlier children on (closing e) h = tt
  waits_well_kept D N earlier children on (over e) h = tt
  waits_well_kept D N earlier children on dropped h = tt

  pub children_are_kept : (on : List OpNumber) (st : BoardStage G) → ChildrenAre job.code s on st → ChildrenAre job.code u on st
  children_are_kept on (idle w) h = tt
  children_are_kept on (filling w d l) h = tt
  children_are_kept on (out w d) h = tt
  children_are_kept on (closing e) h = all_over_kept on ∙ h
  children_are_kept on (over e) h = all_over_kept on ∙ h
  children_are_kept on dropped h = h

  -- ---- rows

  frame_kept : (o : Operation) (w : Wait) → frame_behind u o w ≡ frame_behind s o w
  frame_kept o wait.Beginning = refl
  frame_kept o wait.Nothing = refl
  frame_kept o (wait.Part root field) = refl
  frame_kept o (wait.Child n) = ap (λ z. record o.frame { slots = map (settled n z) o.frame.slots }) (change.value (slice_get o.children n))

  pub before_kept : (o : Operation) (fill : Option Filling) → before_of job.code u o fill ≡ before_of job.code s o fill
  before_kept o fill = λ i. record (before_of job.code s o fill) { frame = frame_kept o o.wait i }

  stands_kept : (who : ℕ → ℕ) (roots : List RootId) (kn : Knotted) (o : Operation) (N : List Requirement) (st : BoardStage G) →
      Stands job.code s.roots who roots s kn o N st → Stands job.code s.roots who roots u kn o N st
  stands_kept who roots kn o N (idle w) h = h
  stands_kept who roots kn o N (filling w d l) h = h
  stands_kept who roots kn o N (out w d) h = (
    h.0,
    record {
      waits = h.1.waits;
      claim = h.1.claim;
      fill = h.1.fill;
      activity_is = h.1.activity_is ∙ ap (λ b. activity.Out h.1.claim b) (sym (before_kept o h.1.fill));
      fills = h.1.fills;
    },
  )
  stands_kept who roots kn o N (closing e) h = h
  stands_kept who roots kn o N (over e) h = h
  stands_kept who roots kn o N dropped h = h

  module _ (who : ℕ → ℕ) (ways : List (List ℕ)) where
    pub listed_kept : (roots : List RootId) (j : ℕ) (xs : List Sibling) → AreListed job s who roots j xs → AreListed job u who roots j xs
    listed_kept roots j [] h = tt
    listed_kept roots j (x ∷ xs) h = (
      λ e. let l = h.0 (sym (change.done x.op) ∙ e) in
          record { entry = l.entry; there = l.there; op_is = l.op_is; context = l.context; issued = l.issued; placed = l.placed; upward = l.upward; alike = l.alike; own = l.own; others = l.others },
      listed_kept roots j xs h.1,
    )

    pub row_kept : (way : List ℕ) (j : ℕ) (earlier : List Sibling) (roots : List RootId) (D N : List Requirement) (f : board.Frame) (ps : List (Element G)) (st : BoardStage G) (is : Items G) →
        ¬ (j ≡ k) → Row job s who ways way j earlier roots D N f ps st is → Row job u who ways way j earlier roots D N f ps st is
    row_kept way j earlier roots D N f ps st is n h =
        let same : operation_at s j ≡ operation_at u j = sym (change.others j n) in
        let knot_same : knot_at s.waits.knots j ≡ knot_at ks j = sym (change.other_knots j n) in
        record {
          within = subst (λ m. j < m) (sym change.size) h.within;
          knot = subst (λ m. j < m) (sym change.knots) h.knot;
          way_is = h.way_is;
          own = subst (λ (o : Operation). (name : ℕ → ℕ) → IsNaming s.roots who roots name → f.own ≡ map (λ (r : RootId). name r.0) o.frame.own) same h.own;
          seen = subst (λ (o : Operation). IfRuns job st (IsSeen job.code s.tree s.map s.roots who roots o N f ps)) same h.seen;
          said_is = h.said_is ∙ ap (λ (o : Operation). o.said) same;
          stands = subst (λ (x : Knot). Stands job.code s.roots who roots u x.stage (operation_at u j) N st) knot_same
              (subst (λ (o : Operation). Stands job.code s.roots who roots u (knot_at s.waits.knots j).stage o N st) same
              (stands_kept who roots (knot_at s.waits.knots j).stage (operation_at s j) N st h.stands));
          free = subst (λ (x : Knot). x.stage ≡ knot.Parked → st ≡ idle first → x.on ≡ []) knot_same h.free;
          waits = subst (λ (x : Knot). WaitsWell job.code ks D N earlier (siblings job (operation_at u j).children is) x.on st) knot_same
              (subst (λ (o : Operation). WaitsWell job.code ks D N earlier (siblings job o.children is) (knot_at s.waits.knots j).on st) same
              (waits_well_kept D N earlier (siblings job (operation_at s j).children is) (knot_at s.waits.knots j).on st h.waits));
          begun = subst (λ (x : Knot). was_begun x.stage ≡ true → all_clear ks D earlier ≡ true) knot_same (λ b. clear_kept D earlier ∙ h.begun b);
          listed = subst (λ (o : Operation). AreListed job u who roots j (siblings job o.children is)) same (listed_kept roots j (siblings job (operation_at s j).children is) h.listed);
          children_are = subst (λ (o : Operation). ChildrenAre job.code u o.children st) same (children_are_kept (operation_at s j).children st h.children_are);
        }

    pub is_child_kept : (j i : ℕ) → IsChild job s who ways j i → IsChild job u who ways j i
    is_child_kept j i h = record { parent = change.parent i ∙ h.parent; later = h.later }

    -- ---- trees

    same_way : (v w : List ℕ) → Some v ≡ Some w → v ≡ w
    same_way v w e = cc

    pub apart_row : (v w : List ℕ) (j : ℕ) → way_of G (machine_of job) ways k ≡ Some v → ((x : List ℕ) → ¬ (v ≡ w ++ x)) → way_of G (machine_of job) ways j ≡ Some w → ¬ (j ≡ k)
    apart_row v w j e h q same = h [] (same_way v w (sym e ∙ ap (way_of G (machine_of job) ways) (sym same) ∙ q) ∙ sym (append-nil w))

    apart_below : (v w : List ℕ) (c : ℕ) → ((x : List ℕ) → ¬ (v ≡ w ++ x)) → (x : List ℕ) → ¬ (v ≡ (w ++ c ∷ []) ++ x)
    apart_below v w c h x e = h (c ∷ x) (e ∙ append_assoc w (c ∷ []) x)

    mutual
      pub shows_kept : (v way : List ℕ) (j : ℕ) (earlier : List Sibling) (above : List RootId) (n : Node G) → way_of G (machine_of job) ways k ≡ Some v →
          ((x : List ℕ) → ¬ (v ≡ way ++ x)) → Shows job s who ways way j earlier above n → Shows job u who ways way j earlier above n
      shows_kept v way j earlier above (op D N i f ps st is) e apart h =
          let other = apart_row v way j e apart h.0.way_is in
          subst (λ (o : Operation). Row job u who ways way j earlier (above ++ o.frame.own) D N f ps st is
          × ShowsChildren job u who ways way j 0 [] (above ++ o.frame.own) o.children is) (sym (change.others j other)) (
            row_kept way j earlier (above ++ (operation_at s j).frame.own) D N f ps st is other h.0,
            children_kept v way j 0 [] (above ++ (operation_at s j).frame.own) (operation_at s j).children is e (λ c b. apart_below v way c apart) h.1,
          )

      pub children_kept : (v way : List ℕ) (j c : ℕ) (earlier : List Sibling) (roots : List RootId) (ks : List OpNumber) (is : Items G) → way_of G (machine_of job) ways k ≡ Some v →
          ((d : ℕ) → c ≤ d → (x : List ℕ) → ¬ (v ≡ (way ++ d ∷ []) ++ x)) → ShowsChildren job s who ways way j c earlier roots ks is → ShowsChildren job u who ways way j c earlier roots ks is
      children_kept v way j c earlier roots ks no_item e apart h = h
      children_kept v way j c earlier roots ks (said t is) e apart h = children_kept v way j c earlier roots ks is e apart h
      children_kept v way j c earlier roots [] (child_op n is) e apart h = absurd h
      children_kept v way j c earlier roots (x ∷ xs) (child_op n is) e apart h = (
        is_child_kept j x.0 h.0,
        shows_kept v (way ++ c ∷ []) x.0 earlier roots n e (apart c (omega arith)) h.1,
        children_kept v way j (suc c) (earlier ++ record { op = x.0; needs = needs_issued job n } ∷ []) roots xs is e (λ d b. apart d (omega (arith, b))) h.2,
      )
