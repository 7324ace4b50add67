-- The caller of one that is over: where it waits for one that failed it is stopped, and else it goes on as before.
use Rattle.std.proofs.Common.{◌≡◌, ◌<◌, ◌+◌, ◌++◌, ◌∷◌, ◌∙◌, ℕ, zero, suc, Bool, List, [], ap, arith, cond, false, inl, inr, length, refl, subst, sym, true, ⊎_elim}
use Rattle.std.specs.Prelude.{All, filter}
use Rattle.std.specs.List.{Contains}
use Rattle.std.proofs.lemmas.Bool.{and_parts, false≢true, true≢false}
use Rattle.std.proofs.lemmas.List.Elements.{All-append}
use Rattle.region_tree.specs.Requirements.{Requirement, is_of}
use Rattle.region_tree.specs.declared.tree.OpNumber.{OpNumber}
use Rattle.region_tree.specs.declared.tree.RootId.{RootId}
use Rattle.dependence_graph.specs.Entries.{Knot}
use Rattle.dependence_graph.specs.Knots.{has_failed, is_idle, knot_at, number, some_failed, stage_at}
use Rattle.dependence_graph.specs.declared.stage.Stage.{Stage as Knotted}
use Rattle.dependence_graph.specs.declared.stage.Stage.TheVariants as knot
use Rattle.task_code.specs.declared.job.Job.{Job}
use Rattle.board_rules.specs.Boards.{Items, Operation as Node, Stage as BoardStage, Wait as BoardWait, child, child_op, closing, dropped, filling, first, idle, no_item, nothing, op, out, over, part, said, stopped}
use Rattle.board_rules.specs.Boards as tree
use Rattle.board_rules.specs.Ground.{Ground}
use Rattle.board_rules.specs.Running.{Element, Machine}
use Rattle.regent_boards.specs.Frames as board
use Rattle.regent_boards.specs.RegentMachine.{regent_ground}
use Rattle.code_boards.specs.Laws.{machine_of}
use Rattle.code_boards.specs.Views.{spaces_of}
use Rattle.board_terms.specs.declared.extent.Extent.{Extent}
use Rattle.board_terms.specs.declared.operation.Operation.{Operation}
use Rattle.board_terms.specs.declared.operation.Activity.TheVariants.{Idle}
use Rattle.board_terms.specs.Closings.{all_over, how_closed}
use Rattle.board_terms.specs.Stages.{is_closing, is_over}
use Rattle.board_terms.specs.Stages as table
use Rattle.board_terms.specs.States.{State, operation_at}
use Rattle.board_trees.specs.Frames.{IsSeen}
use Rattle.board_trees.specs.Shows.{AreListed, IfRuns, Row, ShowsChildren, needs_issued, siblings}
use Rattle.board_trees.specs.Stages.{AwaitsOn, ChildrenAre, MayIdle, Stands, WaitsWell, was_begun}
use Rattle.board_trees.specs.Waits.{Sibling, WaitsForChild}
use Rattle.board_trees.proofs.Ordered.{children_ordered}
use Rattle.board_trees.proofs.Settled.{children_bad, node_told}
use Rattle.board_trees.proofs.Told.{done_unfailed, or_off, waits_are_told}
use Rattle.changed_trees.specs.Changes.{Change, IsAt, IsWider}
use Rattle.changed_trees.specs.Edits.{up_among}
use Rattle.changed_trees.specs.Open.{Asked, HasAmong, HasAt, IsOpen}
use Rattle.changed_trees.proofs.Kept.{awaits_kept, back, clear_kept, if_runs, listed_kept, out_answers, seen_kept, shown_match, stands_kept, waits_well_kept, wider_on}
use Rattle.closed_trees.proofs.Graph.{Ends, ended_as}
use Rattle.changed_trees.proofs.Contained.{contains_cases, contains_first, contains_later, none_in}
use Rattle.closed_trees.proofs.Places.{At, family_changes}
use Rattle.closed_trees.proofs.Reached.{Leaving, Standing, ends_so, entries_kept}
use Rattle.closed_trees.proofs.Reached as reached
use Rattle.closed_trees.proofs.Swept.{IsIt, among_swept, childless}
use Rattle.closed_trees.proofs.Trees.{left_says, left_siblings, opened_up}

closing_open : (x : table.Stage) → is_closing x ≡ true → is_over x ≡ false
closing_open table.waiting e = refl
closing_open table.filling e = refl
closing_open table.out e = refl
closing_open table.parked e = refl
closing_open table.closing e = refl
closing_open table.ended e = absurd (false≢true e)
closing_open table.failed e = absurd (false≢true e)
closing_open table.dropped e = absurd (false≢true e)

over_there : (s : State) (os : List OpNumber) (o : OpNumber) → all_over s os ≡ true → Contains os o → is_over (table.stage_at s o.0) ≡ true
over_there s [] o e c = absurd (none_in o c)
over_there s (x ∷ xs) o e c =
    let both = and_parts (is_over (table.stage_at s x.0)) (all_over s xs) e in
    ⊎_elim (λ q. subst (λ (y : OpNumber). is_over (table.stage_at s y.0) ≡ true) q both.0) (λ m. over_there s xs o both.1 m) (contains_cases x xs o c)

module _ (job : Job) (makings : ℕ) where
  abbrev G : Ground
  G = regent_ground (spaces_of job.code)

  abbrev M : Machine G
  M = machine_of job makings

  -- a child that is waited for has failed on both or on neither
  child_bad : (s : State) (who : ℕ → ℕ) (ways : List (List ℕ)) (place : ℕ) (on : List OpNumber) (way : List ℕ) (j c : ℕ) (earlier : List Sibling) (roots : List RootId) (ks : List OpNumber) (is : Items G) →
      ShowsChildren job s who ways way j c earlier roots ks is → WaitsForChild s.waits.knots place (siblings job ks is) on → some_failed s.waits.knots on ≡ tree.failed_at G M is place
  child_bad s who ways place on way j c earlier roots ks no_item h w = ap (some_failed s.waits.knots) w
  child_bad s who ways place on way j c earlier roots ks (said t is) h w = child_bad s who ways place on way j c earlier roots ks is h w
  child_bad s who ways place on way j c earlier roots [] (child_op n is) h w = absurd h
  child_bad s who ways zero on way j c earlier roots (k ∷ ks) (child_op n is) h (inl w) =
      ap (some_failed s.waits.knots) w ∙ or_off (has_failed (stage_at s.waits.knots k.0)) ∙ (node_told job s who ways (way ++ c ∷ []) k.0 earlier roots n h.1).failed
  child_bad s who ways zero on way j c earlier roots (k ∷ ks) (child_op n is) h (inr w) =
      ap (some_failed s.waits.knots) w.0 ∙ sym (done_unfailed (stage_at s.waits.knots k.0) w.1) ∙ (node_told job s who ways (way ++ c ∷ []) k.0 earlier roots n h.1).failed
  child_bad s who ways (suc place) on way j c earlier roots (k ∷ ks) (child_op n is) h w =
      child_bad s who ways place on way j (suc c) (earlier ++ record { op = k.0; needs = needs_issued job n } ∷ []) roots ks is h.2 w

  -- what is waited for has failed on both or on neither
  failed_told : (s : State) (who : ℕ → ℕ) (ways : List (List ℕ)) (w : List ℕ) (j : ℕ) (D N : List Requirement) (earlier : List Sibling) (roots : List RootId) (ks : List OpNumber) (is : Items G) (x : BoardWait G) (on : List OpNumber) →
      ¬ (x ≡ first) → ShowsChildren job s who ways w j 0 [] roots ks is → AwaitsOn job.code s.waits.knots D N earlier (siblings job ks is) x on →
      some_failed s.waits.knots on ≡ tree.waits_for_failed G M N x is
  failed_told s who ways w j D N earlier roots ks is first on n h a = absurd (n refl)
  failed_told s who ways w j D N earlier roots ks is nothing on n h a = ap (some_failed s.waits.knots) a
  failed_told s who ways w j D N earlier roots ks is (part x) on n h a =
      (waits_are_told s.waits.knots (filter (is_of x.root x.field) N) (siblings job ks is) on (children_ordered job s who ways w j 0 [] roots ks is h tt) a).failed
      ∙ children_bad job s who ways makings (filter (is_of x.root x.field) N) w j 0 [] roots ks is h
  failed_told s who ways w j D N earlier roots ks is (child c) on n h a = child_bad s who ways c on w j 0 [] roots ks is h a

  parked_idle : (extents : List Extent) (who : ℕ → ℕ) (roots : List RootId) (kn : Knotted) (x : BoardWait G) → ¬ (x ≡ first) → MayIdle job.code extents who roots kn x → kn ≡ knot.Parked
  parked_idle extents who roots kn first n h = absurd (n refl)
  parked_idle extents who roots kn nothing n h = h
  parked_idle extents who roots kn (part x) n h = h
  parked_idle extents who roots kn (child x) n h = h

  module _ (s : State) (who : ℕ → ℕ) (ways : List (List ℕ)) (root : Node G) (stand : Standing job s who ways root) (k : ℕ) (v : List ℕ) (it : Leaving job s ways k v)
      (closing_k : is_closing (table.stage_at s k) ≡ true) (over_k : all_over s (operation_at s k).children ≡ true)
      (j : ℕ) (w : List ℕ) (c : ℕ) (v_is : v ≡ w ++ c ∷ []) (at_j : IsAt job ways j w) (parent_is : (operation_at s k).parent ≡ number j) (below_k : ¬ (j ≡ k)) where
    abbrev ks : List Knot
    ks = s.waits.knots

    abbrev us : List Knot
    us = reached.us job s who ways root stand k v it (how_closed s k)

    abbrev u : State
    u = reached.u job s who ways root stand k v it (how_closed s k)

    abbrev Here : List ℕ → Type 0
    Here = At job s who ways root stand k v it (how_closed s k) j w c v_is at_j parent_is

    abbrev change : Change job s u who who ways ways Here
    change = family_changes job s who ways root stand k v it (how_closed s k) j w c v_is at_j parent_is

    abbrev facts : Ends ks us k (ended_as (how_closed s k))
    facts = ends_so job s who ways root stand k v it (how_closed s k)

    abbrev o : Operation
    o = operation_at s j

    abbrev Below : List RootId → Type 0
    Below roots = All (λ (r : RootId). r.0 < length s.roots) roots

    abbrev Opens : Asked job
    Opens = IsIt job s who ways k

    among_there : (B : Asked job) (own : (z : List ℕ) (i : ℕ) (earlier : List Sibling) (above : List RootId) (n : Node G) → B z i earlier above n → i ≡ k) (c1 d : ℕ) (earlier : List Sibling) (roots : List RootId) (xs : List OpNumber) (is : Items G) →
        HasAmong job s who ways B c1 [] w j d earlier roots xs is → Contains xs (number k)
    among_there B own c1 d earlier roots xs no_item h = absurd h
    among_there B own c1 d earlier roots xs (said t is) h = among_there B own c1 d earlier roots xs is h
    among_there B own c1 d earlier roots [] (child_op n is) h = absurd h
    among_there B own zero d earlier roots (x ∷ xs) (child_op n is) h = subst (λ y. Contains (x ∷ xs) (number y)) (own (w ++ d ∷ []) x.0 earlier roots n h.1) (contains_first x xs)
    among_there B own (suc c1) d earlier roots (x ∷ xs) (child_op n is) h =
        contains_later x xs (number k) (among_there B own c1 (suc d) (earlier ++ record { op = x.0; needs = needs_issued job n } ∷ []) roots xs is h.2)

    module _ (earlier : List Sibling) (above more : List RootId) (wider : IsWider u above more) (below : Below above) (D N : List Requirement) (i : ℕ) (f : board.Frame) (ps : List (Element G)) (is : Items G) where
      abbrev roots : List RootId
      roots = above ++ o.frame.own

      abbrev wide : List RootId
      wide = more ++ o.frame.own

      abbrev left : Items G
      left = tree.sweep G M [] (up_among G M c [] is)

      wide_is : IsWider u roots wide
      wide_is = wider_on u above more o.frame.own wider

      under : Below roots
      under = All-append (λ (r : RootId). r.0 < length s.roots) above o.frame.own below (stand.own_made j)

      -- whatever stage it comes to
      module _ (st : BoardStage G) (row : Row job s who ways w j earlier roots D N f ps st is) (h : HasAmong job s who ways Opens c [] w j 0 [] roots o.children is) where
        kids : ShowsChildren job u who ways w j 0 [] wide o.children left
        kids =
            let from : 0 + c ≡ c = omega arith in
            among_swept job makings s who ways root stand k v it closing_k over_k j w c v_is at_j parent_is roots wide wide_is under c [] 0 [] o.children is from tt (λ Q. refl) h

        there : Contains o.children (number k)
        there = among_there Opens (λ z i earlier above n b. b.0) c 0 [] roots o.children is h

        opened : (now : BoardStage G) → tree.is_over G now ≡ false → IfRuns job now (IsSeen job.code u.tree u.map u.roots who wide o N f ps) → Stands job.code u.roots who wide u (knot_at us j).stage o N now →
            ((knot_at us j).stage ≡ knot.Parked → now ≡ idle first → (knot_at us j).on ≡ []) → WaitsWell job.code us D N earlier (siblings job o.children left) (knot_at us j).on now →
            (was_begun (knot_at us j).stage ≡ true → was_begun (knot_at ks j).stage ≡ true) →
            IsOpen job u who ways w j earlier more (op D N i f ps now left)
        opened now going seen stands free waits was = (
          record {
            within = row.within;
            knot = change.knots j row.knot;
            way_is = row.way_is;
            going = going;
            own = λ name is. row.own name (back job s u who who ways ways Here change roots wide wide_is under name is);
            seen = seen;
            said_is = left_says job M c is 0 ∙ row.said_is;
            stands = stands;
            free = free;
            waits = waits;
            begun = λ b. clear_kept job s u who who ways ways Here change D earlier (row.begun (was b));
            listed = subst (AreListed job u who wide j) (sym (left_siblings job M c o.children is))
                (listed_kept job s u who who ways ways Here change roots wide wide_is under j (λ x q f e. entries_kept job s who ways root stand k v it (how_closed s k) x f e)
                (siblings job o.children is) row.listed);
          },
          kids,
        )

        waited : WaitsWell job.code ks D N earlier (siblings job o.children left) (knot_at ks j).on st
        waited = subst (λ xs. WaitsWell job.code ks D N earlier xs (knot_at ks j).on st) (sym (left_siblings job M c o.children is)) row.waits

        -- it goes on
        goes_on : tree.is_over G st ≡ false → knot_at us j ≡ knot_at ks j → IsOpen job u who ways w j earlier more (op D N i f ps st left)
        goes_on going same =
            let matches = shown_match job u who ways w j 0 [] wide o.children left kids in
            opened st going
            (if_runs job s u who who ways ways Here change st (seen_kept job s u who who ways ways Here change roots wide wide_is under o N f ps) row.seen)
            (subst (λ (x : Knot). Stands job.code u.roots who wide u x.stage o N st) (sym same)
            (stands_kept job s u who who ways ways Here change roots wide wide_is under (knot_at ks j).stage o N st
            (out_answers job s u who who ways ways Here change D N earlier o (knot_at ks j).on left st matches waited) row.stands))
            (subst (λ (x : Knot). x.stage ≡ knot.Parked → st ≡ idle first → x.on ≡ []) (sym same) row.free)
            (subst (λ (x : Knot). WaitsWell job.code us D N earlier (siblings job o.children left) x.on st) (sym same)
            (waits_well_kept job s u who who ways ways Here change roots (knot_at ks j).stage o D N earlier (siblings job o.children left) (knot_at ks j).on st
            (λ e q. ap (λ (x : Knot). some_failed us x.on) (sym same) ∙ facts.reached j (ap (λ (x : Knot). is_idle x.stage) same ∙ e)) row.stands waited))
            (λ b. ap (λ (x : Knot). was_begun x.stage) (sym same) ∙ b)

        -- it is stopped
        stops : o.activity ≡ Idle → (knot_at ks j).stage ≡ knot.Parked → (knot_at us j).stage ≡ knot.Stopped →
            IsOpen job u who ways w j earlier more (op D N i f ps (closing stopped) left)
        stops a p e = opened (closing stopped) refl tt (inr (e, a)) (λ p q. absurd (true≢false (sym (ap runs q)))) tt (λ b. ap was_begun p)
          where
            runs : BoardStage G → Bool
            runs (idle x) = true
            runs _ = false

        unlike : (kn : Knotted) → (knot_at ks j).stage ≡ kn → is_idle kn ≡ false → knot_at us j ≡ knot_at ks j
        unlike kn e n = ⊎_elim (λ q. q) (λ g. ⊎_elim
            (λ b. absurd (true≢false (ap is_idle (sym b.0 ∙ e) ∙ n)))
            (λ b. absurd (true≢false (ap is_idle (sym b.0 ∙ e) ∙ n))) g.stages) (facts.others j below_k)

        unfirst : (x : BoardWait G) → st ≡ idle x → ¬ (x ≡ first)
        unfirst x e q =
            let first_is : st ≡ idle first = e ∙ ap (λ x. idle x) q in
            let stood = subst (λ st. Stands job.code s.roots who roots s (knot_at ks j).stage o N st) first_is row.stands in
            none_in (number k) (subst (λ os. Contains os (number k)) (childless job s.roots who roots o.frame.needs.items o.parts o.children o.wait stood.1.1) there)

        ended_above : ChildrenAre job.code s o.children st → tree.is_over G st ≡ true → ⊥
        ended_above are e = by_stage st are e
          where
            open_k : is_over (table.stage_at s k) ≡ false
            open_k = closing_open (table.stage_at s k) closing_k

            by_stage : (st : BoardStage G) → ChildrenAre job.code s o.children st → tree.is_over G st ≡ true → ⊥
            by_stage (idle x) a e = false≢true e
            by_stage (filling x d l) a e = false≢true e
            by_stage (out x d) a e = false≢true e
            by_stage (closing x) a e = false≢true e
            by_stage (over x) a e = true≢false (sym (over_there s o.children (number k) a there) ∙ open_k)
            by_stage dropped a e = none_in (number k) (subst (λ os. Contains os (number k)) a there)

      -- ---- stage by stage

      waits_on : (x : BoardWait G) → Row job s who ways w j earlier roots D N f ps (idle x) is → HasAmong job s who ways Opens c [] w j 0 [] roots o.children is →
          IsOpen job u who ways w j earlier more (op D N i f ps (tree.stop G M N (idle x) left) left)
      waits_on x row h =
          let n = unfirst (idle x) row h x refl in
          let awaited = awaits_kept job s u who who ways ways Here change D N earlier (siblings job o.children left) x (knot_at ks j).on (waited (idle x) row h).0 in
          let told = failed_told u who ways w j D N earlier wide o.children left x (knot_at ks j).on n (kids (idle x) row h) awaited in
          let by : Bool → Type 0 = λ b. IsOpen job u who ways w j earlier more (op D N i f ps (cond b (closing stopped) (idle x)) left) in
          let parked = parked_idle s.roots who roots (knot_at ks j).stage x n row.stands.0 in
          ⊎_elim
          (λ same. subst by
          (sym (facts.reached j (ap (λ (y : Knot). is_idle y.stage) same ∙ ap is_idle parked)) ∙ ap (λ (y : Knot). some_failed us y.on) same ∙ told)
          (goes_on (idle x) row h refl same))
          (λ g. ⊎_elim
          (λ b. let q : knot.Waiting ≡ knot.Parked = sym b.0 ∙ parked in absurd cc)
          (λ b. subst by (sym g.vain ∙ ap (some_failed us) g.on ∙ told) (stops (idle x) row h row.stands.1.0 b.0 b.1)) g.stages)
          (facts.others j below_k)

      by_stage : (st : BoardStage G) → Row job s who ways w j earlier roots D N f ps st is → HasAmong job s who ways Opens c [] w j 0 [] roots o.children is →
          IsOpen job u who ways w j earlier more (op D N i f ps (tree.stop G M N st left) left)
      by_stage (idle x) row h = waits_on x row h
      by_stage (filling x d l) row h = goes_on (filling x d l) row h refl (unlike (filling x d l) row h knot.Begun row.stands.0 refl)
      by_stage (out x d) row h = goes_on (out x d) row h refl (unlike (out x d) row h knot.Begun row.stands.0 refl)
      by_stage (closing e) row h = goes_on (closing e) row h refl (⊎_elim
          (λ b. unlike (closing e) row h knot.Begun b.0 refl) (λ b. unlike (closing e) row h knot.Stopped b.0 refl) row.stands)
      by_stage (over e) row h = absurd (ended_above (over e) row h row.children_are refl)
      by_stage dropped row h = absurd (ended_above dropped row h row.children_are refl)

    -- what is left of it may be over
    pub open_caller : (earlier : List Sibling) (above more : List RootId) → IsWider u above more → Below above → (n : Node G) → HasAt job s who ways Opens (c ∷ []) w j earlier above n →
        IsOpen job u who ways w j earlier more (opened_up G M c n)
    open_caller earlier above more wider below (op D N i f ps st is) h = by_stage earlier above more wider below D N i f ps is st h.0 h.1
