-- An operation whose own work has ended, and all of whose children are over, is over: on the table and in the tree.
use Rattle.std.proofs.Common.{◌≡◌, ◌<◌, ◌⊎◌, ◌++◌, ◌∷◌, ◌∙◌, ◌&&◌, ℕ, suc, Bool, List, Some, [], ap, cond, false, inl, inr, length, refl, subst, sym, true, ⊎_elim}
use Rattle.std.specs.Prelude.{All}
use Rattle.std.proofs.lemmas.Bool.{false≢true, true≢false}
use Rattle.std.proofs.lemmas.List.Elements.{All-append}
use Rattle.region_tree.specs.Requirements.{Requirement}
use Rattle.region_tree.specs.declared.tree.OpNumber.{OpNumber}
use Rattle.region_tree.specs.declared.tree.RootId.{RootId}
use Rattle.dependence_graph.specs.Entries.{Knot}
use Rattle.dependence_graph.specs.Knots.{is_done, knot_at}
use Rattle.dependence_graph.specs.declared.stage.How.{How}
use Rattle.dependence_graph.specs.declared.stage.How.TheVariants as how
use Rattle.dependence_graph.specs.declared.stage.Stage.{Stage as Knotted}
use Rattle.dependence_graph.specs.declared.stage.Stage.TheVariants as knot
use Rattle.task_code.specs.declared.job.Job.{Job}
use Rattle.board_rules.specs.Boards.{Ending as BoardEnding, Items, Operation as Node, Stage as BoardStage, at_fault, by, child, child_op, closing, dropped, filling, first, idle, no_item, nothing, op, out, over, part, said, stopped}
use Rattle.board_rules.specs.Boards as tree
use Rattle.board_rules.specs.Ground.{Ground}
use Rattle.board_rules.specs.Running.{Element, Machine}
use Rattle.regent_boards.specs.Frames as board
use Rattle.regent_boards.specs.RegentMachine.{regent_ground}
use Rattle.code_boards.specs.Laws.{machine_of}
use Rattle.code_boards.specs.Views.{spaces_of}
use Rattle.board_terms.specs.declared.extent.Extent.{Extent}
use Rattle.board_terms.specs.declared.operation.Activity.{Activity}
use Rattle.board_terms.specs.declared.operation.Activity.TheVariants as activity
use Rattle.board_terms.specs.declared.operation.Ending.{Ending}
use Rattle.board_terms.specs.declared.operation.Ending.TheVariants as ending
use Rattle.board_terms.specs.declared.operation.Operation.{Operation}
use Rattle.board_terms.specs.declared.operation.Wait.{Wait}
use Rattle.board_terms.specs.declared.operation.Wait.TheVariants as wait
use Rattle.board_terms.specs.Closings.{all_good, all_over, came_to_end, how_closed, not_stopped}
use Rattle.board_terms.specs.Stages.{by_activity, by_wait, is_closing, is_good, is_over, stage_of}
use Rattle.board_terms.specs.Stages as table
use Rattle.board_terms.specs.States.{State, operation_at}
use Rattle.board_trees.specs.Shows.{Shows, ShowsChildren, needs_issued, siblings}
use Rattle.board_trees.specs.Stages.{ChildrenAre, IsEnding, MayFail, Stands, WasStopped, was_begun}
use Rattle.board_trees.specs.Waits.{Sibling}
use Rattle.board_trees.proofs.Settled.{children_over, node_told, settled}
use Rattle.board_trees.proofs.Told.{stage_there}
use Rattle.changed_trees.specs.Changes.{Change, IsWider}
use Rattle.changed_trees.specs.Open.{IsOpen}
use Rattle.changed_trees.proofs.Below.{children_kept}
use Rattle.changed_trees.proofs.Kept.{back, clear_kept, listed_kept, wider_on}
use Rattle.closed_trees.proofs.Graph.{ended_as}
use Rattle.closed_trees.proofs.Reached.{Leaving, Standing, all_stay, ends_so, entries_kept}

good_done : (kn : Knotted) (w : Wait) (a : Activity) → is_good (stage_of kn w a) ≡ is_done (Some kn)
good_done knot.Waiting w a = refl
good_done knot.Begun w activity.Idle = refl
good_done knot.Begun w (activity.Filling c f) = refl
good_done knot.Begun w (activity.Out c b) = refl
good_done knot.Begun w (activity.Closing e) = refl
good_done knot.Parked wait.Beginning a = refl
good_done knot.Parked wait.Nothing a = refl
good_done knot.Parked (wait.Part root field) a = refl
good_done knot.Parked (wait.Child n) a = refl
good_done knot.Stopped w a = refl
good_done knot.Done w a = refl
good_done knot.Failed w a = refl
good_done knot.Dropped w a = refl

wait_unclosing : (w : Wait) → is_closing (by_wait w) ≡ false
wait_unclosing wait.Beginning = refl
wait_unclosing wait.Nothing = refl
wait_unclosing (wait.Part root field) = refl
wait_unclosing (wait.Child n) = refl

module _ (job : Job) where
  abbrev G : Ground
  G = regent_ground (spaces_of job.code)

  -- ---- whether an operation may be over

  module _ (s : State) (extents : List Extent) (who : ℕ → ℕ) (roots : List RootId) (kn : Knotted) (o : Operation) (N : List Requirement) where
    abbrev Stood : BoardStage G → Type 0
    Stood st = Stands job.code extents who roots s kn o N st

    abbrev closes : Bool
    closes = is_closing (stage_of kn o.wait o.activity)

    waiting_open : kn ≡ knot.Waiting → closes ≡ false
    waiting_open e = ap (λ x. is_closing (stage_of x o.wait o.activity)) e

    parked_open : kn ≡ knot.Parked → closes ≡ false
    parked_open e = ap (λ x. is_closing (stage_of x o.wait o.activity)) e ∙ wait_unclosing o.wait

    begun_open : (a : Activity) → kn ≡ knot.Begun → o.activity ≡ a → closes ≡ is_closing (by_activity a)
    begun_open a e f = ap (λ x. is_closing (stage_of x o.wait o.activity)) e ∙ ap (λ a. is_closing (by_activity a)) f

    stopped_open : kn ≡ knot.Stopped → closes ≡ true
    stopped_open e = ap (λ x. is_closing (stage_of x o.wait o.activity)) e

    pub closes_at : (st : BoardStage G) → Stood st → tree.is_over G st ≡ false → closes ≡ true → (e : BoardEnding G) × (st ≡ closing e)
    closes_at (idle first) (inl q, h) n e = absurd (false≢true (sym (waiting_open q) ∙ e))
    closes_at (idle first) (inr q, h) n e = absurd (false≢true (sym (parked_open q) ∙ e))
    closes_at (idle nothing) h n e = absurd (false≢true (sym (parked_open h.0) ∙ e))
    closes_at (idle (part x)) h n e = absurd (false≢true (sym (parked_open h.0) ∙ e))
    closes_at (idle (child x)) h n e = absurd (false≢true (sym (parked_open h.0) ∙ e))
    closes_at (filling w d l) h n e = absurd (false≢true (sym (begun_open (activity.Filling h.1.claim h.1.fill) h.0 h.1.activity_is) ∙ e))
    closes_at (out w d) h n e = absurd (false≢true (sym (begun_open _ h.0 h.1.activity_is) ∙ e))
    closes_at (closing x) h n e = (x, refl)
    closes_at (over x) h n e = absurd (true≢false n)
    closes_at dropped h n e = absurd (true≢false n)

    pub open_children : (ks : List OpNumber) (st : BoardStage G) → Stood st → tree.is_over G st ≡ false → (closes && all_over s ks) ≡ false → ChildrenAre job.code s ks st
    open_children ks (idle w) h n e = tt
    open_children ks (filling w d l) h n e = tt
    open_children ks (out w d) h n e = tt
    open_children ks (closing x) (inl h) n e = ap (λ b. b && all_over s ks) (sym (begun_open (activity.Closing h.1.own) h.0 h.1.activity_is)) ∙ e
    open_children ks (closing x) (inr h) n e = ap (λ b. b && all_over s ks) (sym (stopped_open h.0)) ∙ e
    open_children ks (over x) h n e = absurd (true≢false n)
    open_children ks dropped h n e = absurd (true≢false n)

    -- ---- how it is over

    pub busy_at : (e : BoardEnding G) → Stood (closing e) → (kn ≡ knot.Begun) ⊎ (kn ≡ knot.Stopped)
    busy_at e (inl h) = inl h.0
    busy_at e (inr h) = inr h.0

    abbrev how_so : Knotted → Activity → Bool → How
    how_so kn a good = cond (not_stopped kn && (came_to_end a && good)) how.Done how.Failed

    module _ (M : Machine G) (u : State) where
      abbrev IsOverAs : Knotted → BoardEnding G → Type 0
      IsOverAs kn e = Stands job.code extents who roots u kn o N (over e)

      came_over : (own : Ending) (e : BoardEnding G) (good : Bool) → o.activity ≡ activity.Closing own → IsEnding job.code own e →
          IsOverAs (ended_as (how_so knot.Begun (activity.Closing own) good)) (tree.ending_with G M e good)
      came_over (ending.Value v) (by w) true a h = inl (refl, a ∙ ap (λ z. activity.Closing (ending.Value z)) (sym h))
      came_over (ending.Value v) (by w) false a h = inr (refl, subst (MayFail job.code) (sym a) tt)
      came_over (ending.Value v) (at_fault x) good a h = absurd h
      came_over (ending.Value v) stopped good a h = absurd h
      came_over (ending.Fault v) (by w) good a h = absurd h
      came_over (ending.Fault v) (at_fault x) good a h = inr (refl, record { own = ending.Fault v; activity_is = a; ends = h })
      came_over (ending.Fault v) stopped good a h = absurd h
      came_over ending.Broken (by w) good a h = absurd h
      came_over ending.Broken (at_fault x) good a h = inr (refl, record { own = ending.Broken; activity_is = a; ends = h })
      came_over ending.Broken stopped good a h = absurd h

      was_stopped : (e : BoardEnding G) (good : Bool) → WasStopped job.code extents who roots o e → IsOverAs knot.Failed (tree.ending_with G M e good)
      was_stopped stopped good h = inr (refl, subst (MayFail job.code) (sym h) tt)
      was_stopped (by w) good h = absurd h
      was_stopped (at_fault x) good h = absurd h

      pub over_so : (e : BoardEnding G) (good : Bool) → Stood (closing e) → IsOverAs (ended_as (how_so kn o.activity good)) (tree.ending_with G M e good)
      over_so e good (inl h) = subst (λ x. IsOverAs x (tree.ending_with G M e good)) (λ i. ended_as (how_so (sym h.0 i) (sym h.1.activity_is i) good))
          (came_over h.1.own e good h.1.activity_is h.1.ends)
      over_so e good (inr h) = subst (λ x. IsOverAs x (tree.ending_with G M e good)) (λ i. ended_as (how_so (sym h.0 i) o.activity good)) (was_stopped e good h.1)

  -- ---- children that are over

  all_ended : (s : State) (who : ℕ → ℕ) (ways : List (List ℕ)) (way : List ℕ) (j c : ℕ) (earlier : List Sibling) (roots : List RootId) (ks : List OpNumber) (is : Items G) →
      ShowsChildren job s who ways way j c earlier roots ks is → all_good s ks ≡ tree.all_ended G is
  all_ended s who ways way j c earlier roots ks no_item h = ap (all_good s) h
  all_ended s who ways way j c earlier roots ks (said t is) h = all_ended s who ways way j c earlier roots ks is h
  all_ended s who ways way j c earlier roots [] (child_op n is) h = absurd h
  all_ended s who ways way j c earlier roots (k ∷ ks) (child_op n is) h =
      let t = node_told job s who ways (way ++ c ∷ []) k.0 earlier roots n h.1 in
      let r = all_ended s who ways way j (suc c) (earlier ++ record { op = k.0; needs = needs_issued job n } ∷ []) roots ks is h.2 in
      λ i. (good_done (knot_at s.waits.knots k.0).stage (operation_at s k.0).wait (operation_at s k.0).activity ∙ sym (ap is_done (stage_there s.waits.knots k.0 (node_there s who ways (way ++ c ∷ []) k.0 earlier roots n h.1))) ∙ t.ended) i && r i
    where
      node_there : (s : State) (who : ℕ → ℕ) (ways : List (List ℕ)) (w : List ℕ) (k : ℕ) (earlier : List Sibling) (above : List RootId) (n : Node G) → Shows job s who ways w k earlier above n → k < length s.waits.knots
      node_there s who ways w k earlier above (op D N i f ps st is) h = h.0.knot

  abbrev items_of : Node G → Items G
  items_of (op D N i f ps st is) = is

  module _ (s : State) (who : ℕ → ℕ) (ways : List (List ℕ)) (root : Node G) (stand : Standing job s who ways root) (k : ℕ) (v : List ℕ) (it : Leaving job s ways k v) (At : List ℕ → Type 0)
      (change : Change job s (Rattle.closed_trees.proofs.Reached.u job s who ways root stand k v it (how_closed s k)) who who ways ways At)
      (apart : (d : ℕ) (z : List ℕ) → ¬ At ((v ++ d ∷ []) ++ z)) (makings : ℕ) where
    abbrev M : Machine G
    M = machine_of job makings

    abbrev to : How
    to = how_closed s k

    abbrev u : State
    u = Rattle.closed_trees.proofs.Reached.u job s who ways root stand k v it to

    abbrev Below : List RootId → Type 0
    Below roots = All (λ (r : RootId). r.0 < length s.roots) roots

    module _ (earlier : List Sibling) (above more : List RootId) (wider : IsWider u above more) (below : Below above) where
      over_row : (D N : List Requirement) (i : ℕ) (f : board.Frame) (ps : List (Element G)) (e : BoardEnding G) (is : Items G) → IsOpen job s who ways v k earlier above (op D N i f ps (closing e) is) →
          all_over s (operation_at s k).children ≡ true → Shows job u who ways v k earlier more (op D N i f ps (over (tree.ending_with G M e (tree.all_ended G is))) is)
      over_row D N i f ps e is h all =
          let own = (operation_at s k).frame.own in
          let roots = above ++ own in
          let wide = wider_on u above more own wider in
          let under = All-append (λ (r : RootId). r.0 < length s.roots) above own below (stand.own_made k) in
          let facts = ends_so job s who ways root stand k v it to in
          let good = all_ended s who ways v k 0 [] roots (operation_at s k).children is h.1 in (
            record {
              within = h.0.within;
              knot = change.knots k h.0.knot;
              way_is = h.0.way_is;
              own = λ name is. h.0.own name (back job s u who who ways ways At change roots (more ++ own) wide under name is);
              seen = tt;
              said_is = h.0.said_is;
              stands = subst (λ (x : Knot). Stands job.code u.roots who (more ++ own) u x.stage (operation_at s k) N (over (tree.ending_with G M e (tree.all_ended G is)))) (sym facts.own)
                  (subst (λ g. Stands job.code u.roots who (more ++ own) u (ended_as to) (operation_at s k) N (over (tree.ending_with G M e g))) good
                  (over_so s s.roots who roots (knot_at s.waits.knots k).stage (operation_at s k) N M u e (all_good s (operation_at s k).children) h.0.stands));
              free = λ p q. absurd (unlike q);
              waits = tt;
              begun = λ b. clear_kept job s u who who ways ways At change D earlier (h.0.begun (⊎_elim (λ q. ap was_begun q) (λ q. ap was_begun q) it.busy));
              listed = listed_kept job s u who who ways ways At change roots (more ++ own) wide under k (λ x q f c. entries_kept job s who ways root stand k v it to x f c)
                  (siblings job (operation_at s k).children is) h.0.listed;
              children_are = all_stay job s who ways root stand k v it to (operation_at s k).children all;
            },
            children_kept job s u who who ways ways At change stand.makings stand.made stand.own_made v k 0 [] roots (more ++ own) (operation_at s k).children is wide under (λ d l z. apart d z) h.1,
          )
        where
          unlike : over (tree.ending_with G M e (tree.all_ended G is)) ≡ idle first → ⊥
          unlike q = cc

      -- and so it is settled
      pub over_shows : (n : Node G) → IsOpen job s who ways v k earlier above n → is_closing (table.stage_at s k) ≡ true → all_over s (operation_at s k).children ≡ true →
          Shows job u who ways v k earlier more (tree.settle G M n) × (tree.is_over G (tree.stage_of G (tree.settle G M n)) ≡ true)
      over_shows (op D N i f ps st is) h c all =
          let roots = above ++ (operation_at s k).frame.own in
          let e = closes_at s s.roots who roots (knot_at s.waits.knots k).stage (operation_at s k) N st h.0.stands h.0.going c in
          let shown = over_row D N i f ps e.0 is (subst (λ st. IsOpen job s who ways v k earlier above (op D N i f ps st is)) e.1 h) all in
          let swept : tree.sweep G M [] is ≡ is = ap items_of (settled job u who ways makings v k earlier more (op D N i f ps (over (tree.ending_with G M e.0 (tree.all_ended G is))) is) shown) in
          subst (λ m. Shows job u who ways v k earlier more m × (tree.is_over G (tree.stage_of G m) ≡ true)) (sym (
          ap (λ st. tree.settle G M (op D N i f ps st is)) e.1
          ∙ ap (λ is. op D N i f ps (tree.close G M (closing e.0) is) is) swept
          ∙ ap (λ b. op D N i f ps (cond b (over (tree.ending_with G M e.0 (tree.all_ended G is))) (closing e.0)) is)
          (sym (children_over job s who ways v k 0 [] roots (operation_at s k).children is h.1) ∙ all))) (shown, refl)
