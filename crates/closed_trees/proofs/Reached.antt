-- Whom a failure reaches: siblings of the one that failed, and their caller. All else goes on as before.
use Rattle.std.proofs.Common.{◌≡◌, ◌<◌, ◌⊎◌, ◌∷◌, ◌∙◌, ◌&&◌, ℕ, zero, suc, Bool, List, None, Some, [], ap, arith, cond, false, inl, inr, length, refl, subst, sym, true, ⊎_elim}
use Rattle.std.specs.Prelude.{All, nat_lt}
use Rattle.std.specs.List.{Contains}
use Rattle.std.proofs.lemmas.Bool.{and_from, and_parts, cases_eq, false≢true, or_cases, or_parts, true≢false}
use Rattle.region_finder.specs.Listings.{AreRising, Listed}
use Rattle.region_tree.specs.declared.tree.OpNumber.{OpNumber}
use Rattle.region_tree.specs.declared.tree.RootId.{RootId}
use Rattle.dependence_graph.specs.Entries.{Knot}
use Rattle.dependence_graph.specs.Graphs.{ended}
use Rattle.dependence_graph.specs.Knots.{has_failed, is_done, is_idle, knot_at, number, some_failed, stage_at}
use Rattle.dependence_graph.specs.Laws.{GaveUp, NoneWaitsInVain, WaitsForEarlier}
use Rattle.dependence_graph.specs.declared.stage.How.{How}
use Rattle.dependence_graph.specs.declared.stage.How.TheVariants as how
use Rattle.dependence_graph.specs.declared.stage.Stage.{Stage as Knotted}
use Rattle.dependence_graph.specs.declared.stage.Stage.TheVariants as knot
use Rattle.dependence_graph.proofs.Following.{idle_there, stage_in}
use Rattle.task_code.specs.declared.job.Job.{Job}
use Rattle.board_rules.specs.Boards.{Operation as Node}
use Rattle.board_rules.specs.Ground.{Ground}
use Rattle.regent_boards.specs.RegentMachine.{regent_ground}
use Rattle.code_boards.specs.Views.{spaces_of}
use Rattle.board_terms.specs.declared.operation.Activity.{Activity}
use Rattle.board_terms.specs.declared.operation.Wait.{Wait}
use Rattle.board_terms.specs.Closings.{all_over}
use Rattle.board_terms.specs.Stages.{is_over, stage_of}
use Rattle.board_terms.specs.Stages as table
use Rattle.board_terms.specs.States.{State, operation_at}
use Rattle.board_trees.specs.Names.{AreMade}
use Rattle.board_trees.specs.Shows.{Leads}
use Rattle.board_trees.specs.Waits.{Sibling, has_ended}
use Rattle.board_trees.proofs.Settled.{wait_open}
use Rattle.changed_trees.specs.Changes.{Change, IsAt}
use Rattle.changed_trees.proofs.Listed.{way_found}
use Rattle.closed_trees.proofs.Graph.{Ends, ended_as, ends, entries_stay}
use Rattle.changed_trees.proofs.Contained.{contains_first, contains_later}
use Rattle.closed_trees.proofs.Known.{Called, IsIn, Known, View, known_at}

-- some of these failed meanwhile
record NewFailure (ks us : List Knot) (on : List OpNumber) : Type 0 where
  op : ℕ
  there : Contains on (number op)
  now : has_failed (stage_at us op) ≡ true
  before : has_failed (stage_at ks op) ≡ false

some_new : (ks us : List Knot) (on : List OpNumber) → some_failed us on ≡ true → some_failed ks on ≡ false → NewFailure ks us on
some_new ks us [] e f = absurd (false≢true e)
some_new ks us (o ∷ on) e f =
    let old = or_parts (has_failed (stage_at ks o.0)) (some_failed ks on) f in
    ⊎_elim
    (λ h. record { op = o.0; there = contains_first o on; now = h; before = old.0 })
    (λ h. let more = some_new ks us on h old.1 in record { op = more.op; there = contains_later o on (number more.op) more.there; now = more.now; before = more.before })
    (or_cases (has_failed (stage_at us o.0)) (some_failed us on) e)

stage_alike : (ks us : List Knot) (x : ℕ) → length us ≡ length ks → knot_at us x ≡ knot_at ks x → stage_at us x ≡ stage_at ks x
stage_alike ks us x n e = λ i. cond (nat_lt x (n i)) (Some (e i).stage) None

stopped_unfailed : (us : List Knot) (x : ℕ) → (knot_at us x).stage ≡ knot.Stopped → has_failed (stage_at us x) ≡ false
stopped_unfailed us x e = ap (λ s. has_failed (cond (nat_lt x (length us)) (Some s) None)) e ∙ either (nat_lt x (length us))
  where
    either : (b : Bool) → has_failed (cond b (Some knot.Stopped) None) ≡ false
    either true = refl
    either false = refl

module _ (job : Job) where
  abbrev G : Ground
  G = regent_ground (spaces_of job.code)

  pub one_way : (ways : List (List ℕ)) (x : ℕ) (v w : List ℕ) → IsAt job ways x v → IsAt job ways x w → v ≡ w
  one_way ways x v w e f = some_way v w (sym e ∙ f)
    where
      some_way : (v w : List ℕ) → Some v ≡ Some w → v ≡ w
      some_way v w e = cc

  -- what is known of all operations
  pub record Standing (s : State) (who : ℕ → ℕ) (ways : List (List ℕ)) (tree : Node G) : Type 0 where
    pub rising : (j : ℕ) → AreRising (operation_at s j).children
    pub leads : (j : ℕ) (way : List ℕ) → IsAt job ways j way → Leads job s 0 way j
    pub sized : length ways ≡ length s.operations
    pub knots : length s.waits.knots ≡ length s.operations
    pub makings : ℕ
    pub made : AreMade (length s.roots) who makings
    pub own_made : (j : ℕ) → All (λ (r : RootId). r.0 < length s.roots) (operation_at s j).frame.own
    pub known : Known job s who ways [] 0 [] tree

  -- one whose own work has ended
  pub record Leaving (s : State) (ways : List (List ℕ)) (k : ℕ) (v : List ℕ) : Type 0 where
    pub at : IsAt job ways k v
    pub there : k < length s.waits.knots
    pub busy : ((knot_at s.waits.knots k).stage ≡ knot.Begun) ⊎ ((knot_at s.waits.knots k).stage ≡ knot.Stopped)

  module _ (s : State) (who : ℕ → ℕ) (ways : List (List ℕ)) (tree : Node G) (stand : Standing s who ways tree) where
    pub view : (x : ℕ) (w : List ℕ) → IsAt job ways x w → View job s who ways x w
    view x w at = known_at job s who ways stand.rising w [] 0 [] tree x stand.known (stand.leads x w at) (inl (refl, refl))

    idle_view : (x : ℕ) → is_idle (knot_at s.waits.knots x).stage ≡ true → (w : List ℕ) × View job s who ways x w
    idle_view x e =
        let w = way_found job ways x (subst (λ n. x < n) (stand.knots ∙ sym stand.sized) (idle_there s.waits.knots x e)) in
        (w.0, view x w.0 w.1)

    pub unvain : NoneWaitsInVain s.waits.knots
    unvain x e = (idle_view x e).1.fact.vain e

    pub ordered : WaitsForEarlier s.waits.knots
    ordered x y e c = by_place (idle_view x (ap is_idle e)).1.place
      where
        seen : View job s who ways x (idle_view x (ap is_idle e)).0
        seen = (idle_view x (ap is_idle e)).1

        by_place : (((idle_view x (ap is_idle e)).0 ≡ []) × (seen.earlier ≡ [])) ⊎ Called job s who ways x (idle_view x (ap is_idle e)).0 seen.earlier → y < x
        by_place (inl p) = absurd (subst (λ xs. IsIn xs y) p.1 (seen.fact.waiting e y c))
        by_place (inr p) = (p.before y (seen.fact.waiting e y c)).2

    -- ---- one ends

    module _ (k : ℕ) (v : List ℕ) (it : Leaving s ways k v) (to : How) where
      abbrev ks : List Knot
      ks = s.waits.knots

      abbrev pub us : List Knot
      us = (ended s.waits k to).knots

      not_idle : is_idle (knot_at ks k).stage ≡ false
      not_idle = ⊎_elim (λ e. ap is_idle e) (λ e. ap is_idle e) it.busy

      not_failed : has_failed (Some (knot_at ks k).stage) ≡ false
      not_failed = ⊎_elim (λ e. ap (λ s. has_failed (Some s)) e) (λ e. ap (λ s. has_failed (Some s)) e) it.busy

      pub not_ended : has_ended ks k ≡ false
      not_ended = ap is_done (stage_in ks k it.there) ∙ ⊎_elim (λ e. ap (λ s. is_done (Some s)) e) (λ e. ap (λ s. is_done (Some s)) e) it.busy

      pub ends_so : Ends ks us k (ended_as to)
      ends_so = ends ks k it.there not_idle s.waits to refl not_failed unvain ordered

      pub ended_now : has_ended us k ≡ is_done (Some (ended_as to))
      ended_now = ap is_done (stage_in us k (subst (λ n. k < n) (sym ends_so.size) it.there)) ∙ ap (λ (y : Knot). is_done (Some y.stage)) ends_so.own

      -- what failed meanwhile is this one, or gave up before it began
      new_is : (y : ℕ) → has_failed (stage_at us y) ≡ true → has_failed (stage_at ks y) ≡ false → (y ≡ k) ⊎ ((¬ (y ≡ k)) × GaveUp ks us y × ((knot_at ks y).stage ≡ knot.Waiting))
      new_is y e f = ⊎_elim (λ q. inl q) (λ n. ⊎_elim
          (λ same. absurd (true≢false (sym e ∙ ap has_failed (stage_alike ks us y ends_so.size same) ∙ f)))
          (λ g. ⊎_elim (λ w. inr (n, g, w.0)) (λ w. absurd (false≢true (sym (stopped_unfailed us y w.1) ∙ e))) g.stages)
          (ends_so.others y n)) (cases_eq y k)

      now_fails : (x : ℕ) → GaveUp ks us x → is_idle (knot_at ks x).stage ≡ true → NewFailure ks us (knot_at ks x).on
      now_fails x g e = some_new ks us (knot_at ks x).on (ap (some_failed us) (sym g.on) ∙ g.vain) (unvain x e)

      pub siblings_so : (m x : ℕ) → x < m → ¬ (x ≡ k) → GaveUp ks us x → (knot_at ks x).stage ≡ knot.Waiting → ((operation_at s x).parent ≡ (operation_at s k).parent) × (0 < k)
      siblings_so zero x l n g e = absurd (omega (arith, l))
      siblings_so (suc m) x l n g e =
          let seen = idle_view x (ap is_idle e) in
          let new = now_fails x g (ap is_idle e) in
          ⊎_elim
          (λ p. absurd (subst (λ xs. IsIn xs new.op) p.1 (seen.1.fact.waiting e new.op new.there)))
          (λ c. let b = c.before new.op (seen.1.fact.waiting e new.op new.there) in ⊎_elim
          (λ q. (c.parent ∙ sym b.0 ∙ ap (λ y. (operation_at s y).parent) q, omega (arith, b.1, q)))
          (λ r. let more = siblings_so m new.op (omega (arith, l, b.2)) r.0 r.1 r.2 in (c.parent ∙ sym b.0 ∙ more.0, more.1))
          (new_is new.op new.now new.before))
          seen.1.place

      pub sibling_called : (x : ℕ) (w : List ℕ) → IsAt job ways x w → GaveUp ks us x → (knot_at ks x).stage ≡ knot.Waiting → (earlier : List Sibling) × Called job s who ways x w earlier
      sibling_called x w a g e =
          let seen = view x w a in
          let new = now_fails x g (ap is_idle e) in
          ⊎_elim
          (λ p. absurd (subst (λ xs. IsIn xs new.op) p.1 (seen.fact.waiting e new.op new.there)))
          (λ c. (seen.earlier, c))
          seen.place

      pub caller_so : (x : ℕ) → ¬ (x ≡ k) → GaveUp ks us x → (knot_at ks x).stage ≡ knot.Parked → ((operation_at s k).parent ≡ number x) × (0 < k)
      caller_so x n g e =
          let seen = idle_view x (ap is_idle e) in
          let new = now_fails x g (ap is_idle e) in
          let b = seen.1.children new.op (seen.1.fact.parked e new.op new.there) in
          ⊎_elim
          (λ q. (ap (λ y. (operation_at s y).parent) (sym q) ∙ b.0, omega (arith, b.1, q)))
          (λ r. let more = siblings_so (suc new.op) new.op (omega arith) r.0 r.1 r.2 in (sym more.0 ∙ b.0, more.1))
          (new_is new.op new.now new.before)

      -- all but this one is listed as before
      pub entries_kept : (e : Listed) → has_ended us e.op.0 ≡ false → Contains s.waits.listing e → Contains (ended s.waits k to).listing e
      entries_kept e f c = entries_stay s.waits k to (λ h. ended_now ∙ ap (λ x. is_done (Some (ended_as x))) h) e f c

      -- ---- what others see of it

      abbrev pub u : State
      u = record s { waits = ended s.waits k to }

      over_kept : (x : ℕ) → ¬ (x ≡ k) → ¬ (GaveUp ks us x × ((knot_at ks x).stage ≡ knot.Waiting)) → is_over (table.stage_at u x) ≡ is_over (table.stage_at s x)
      over_kept x n h = ⊎_elim
          (λ same. ap (λ (y : Knot). is_over (stage_of y.stage (operation_at s x).wait (operation_at s x).activity)) same)
          (λ g. ⊎_elim
          (λ w. absurd (h (g, w.0)))
          (λ w. ap (λ y. is_over (stage_of y (operation_at s x).wait (operation_at s x).activity)) w.1
          ∙ sym (ap (λ y. is_over (stage_of y (operation_at s x).wait (operation_at s x).activity)) w.0 ∙ wait_open (operation_at s x).wait)) g.stages)
          (ends_so.others x n)

      over_how : (h : How) (w : Wait) (a : Activity) → is_over (stage_of (ended_as h) w a) ≡ true
      over_how how.Done w a = refl
      over_how how.Failed w a = refl

      pub over_stays : (x : ℕ) → is_over (table.stage_at s x) ≡ true → is_over (table.stage_at u x) ≡ true
      over_stays x e =
          let over_at : Knotted → Bool = λ y. is_over (stage_of y (operation_at s x).wait (operation_at s x).activity) in
          ⊎_elim
          (λ q. ap (λ n. over_at (knot_at us n).stage) q ∙ ap (λ (y : Knot). over_at y.stage) ends_so.own ∙ over_how to (operation_at s x).wait (operation_at s x).activity)
          (λ n. ⊎_elim
          (λ same. ap (λ (y : Knot). over_at y.stage) same ∙ e)
          (λ g. ⊎_elim
          (λ w. ap over_at w.1)
          (λ w. absurd (false≢true (sym (ap over_at w.0 ∙ wait_open (operation_at s x).wait) ∙ e))) g.stages)
          (ends_so.others x n))
          (cases_eq x k)

      pub all_stay : (os : List OpNumber) → all_over s os ≡ true → all_over u os ≡ true
      all_stay [] e = refl
      all_stay (o ∷ os) e =
          let both = and_parts (is_over (table.stage_at s o.0)) (all_over s os) e in
          and_from (is_over (table.stage_at u o.0)) (all_over u os) (over_stays o.0 both.0) (all_stay os both.1)

      all_kept : (os : List OpNumber) → ((o : OpNumber) → Contains os o → is_over (table.stage_at u o.0) ≡ is_over (table.stage_at s o.0)) → all_over u os ≡ all_over s os
      all_kept [] h = refl
      all_kept (o ∷ os) h = λ i. h o (contains_first o os) i && all_kept os (λ y c. h y (contains_later o os y c)) i

      module _ (At : List ℕ → Type 0) (own : ¬ At v → ⊥) (gave : (x : ℕ) (w : List ℕ) → IsAt job ways x w → ¬ At w → ¬ (x ≡ k) → ¬ GaveUp ks us x)
          (caller : (x : ℕ) (w : List ℕ) → IsAt job ways x w → ¬ At w → (operation_at s k).parent ≡ number x → 0 < k → ⊥) where
        other : (x : ℕ) (w : List ℕ) → IsAt job ways x w → ¬ At w → ¬ (x ≡ k)
        other x w a n q = own (subst (λ z. ¬ At z) (one_way ways k w v (subst (λ y. IsAt job ways y w) q a) it.at) n)

        same : (x : ℕ) (w : List ℕ) → IsAt job ways x w → ¬ At w → knot_at us x ≡ knot_at ks x
        same x w a n = ⊎_elim (λ e. e) (λ g. absurd (gave x w a n (other x w a n) g)) (ends_so.others x (other x w a n))

        pub changes : Change job s u who who ways ways At
        changes = record {
          size = λ x l. l;
          knots = λ x l. subst (λ n. x < n) (sym ends_so.size) l;
          way = λ x w a. a;
          row = λ x w a n. refl;
          knot = same;
          ended = λ x e. ⊎_elim (λ q. absurd (false≢true (sym not_ended ∙ ap (has_ended ks) (sym q) ∙ e))) (λ n. ends_so.done x n ∙ e) (cases_eq x k);
          answers = λ x e. refl;
          failed = λ x w a n e f. ap (λ (y : Knot). some_failed us y.on) (sym (same x w a n)) ∙ ends_so.reached x (ap (λ (y : Knot). is_idle y.stage) (same x w a n) ∙ e);
          over = λ x w a n. all_kept (operation_at s x).children (λ o c.
              let b = (view x w a).children o.0 c in
              over_kept o.0
              (λ q. caller x w a n (ap (λ y. (operation_at s y).parent) (sym q) ∙ b.0) (omega (arith, b.1, q)))
              (λ g. ⊎_elim
              (λ q. caller x w a n (ap (λ y. (operation_at s y).parent) (sym q) ∙ b.0) (omega (arith, b.1, q)))
              (λ q. let more = siblings_so (suc o.0) o.0 (omega arith) q g.0 g.1 in caller x w a n (sym more.0 ∙ b.0) more.1) (cases_eq o.0 k)));
          parent = λ x l. refl;
          nodes = λ x l. (l, refl);
          names = λ x l. refl;
          there = λ r e. e;
          fields = λ r field l. l;
          entries = λ x w a n l q e c. entries_kept l e c;
        }
