-- A copy, for the operation itself: it is filled further, or it is out.
use Rattle.std.proofs.Common.{◌≡◌, ◌<◌, ◌++◌, ◌∷◌, ◌∙◌, ◌==◌, ℕ, Bool, List, None, Option, Some, [], ap, cond, false, length, pos, refl, subst, sym, true, ⊎_elim}
use Rattle.std.specs.Prelude.{All, drop, take}
use Rattle.std.proofs.lemmas.List.Elements.{All-append}
use Rattle.region_tree.specs.Requirements.{Requirement}
use Rattle.region_tree.specs.declared.tree.RootId.{RootId}
use Rattle.logical_map.specs.Fills.{Filling, chunk_moved, elements_of}
use Rattle.logical_map.specs.Maps.{is_live}
use Rattle.dependence_graph.specs.Entries.{Knot}
use Rattle.dependence_graph.specs.Knots.{all_done, knot_at}
use Rattle.dependence_graph.specs.declared.stage.Stage.TheVariants as knot
use Rattle.task_code.specs.declared.job.Job.{Job}
use Rattle.board_rules.specs.Boards.{Items, Operation as Node, Stage as BoardStage, Wait as BoardWait, child, closing, copied, copy, dropped, filling, first, idle, nothing, op, out, over, part, step_in}
use Rattle.board_rules.specs.Ground.{Ground}
use Rattle.board_rules.specs.NumberedBoards.{way_of}
use Rattle.board_rules.specs.Processes.{Map}
use Rattle.board_rules.specs.Running.{Element, Machine, Spot, filled}
use Rattle.regent_boards.specs.Frames as board
use Rattle.regent_boards.specs.RegentMachine.{regent_ground}
use Rattle.code_boards.specs.Laws.{machine_of}
use Rattle.code_boards.specs.Views.{spaces_of}
use Rattle.board_terms.specs.declared.claim.Claim.{Claim}
use Rattle.board_terms.specs.declared.operation.Activity.{Activity}
use Rattle.board_terms.specs.declared.operation.Activity.TheVariants as activity
use Rattle.board_terms.specs.declared.operation.Operation.{Operation}
use Rattle.board_terms.specs.Claims.{activity_behind, before_of, moved_on, value_of}
use Rattle.board_terms.specs.Stages.{is_over, stage_of}
use Rattle.board_terms.specs.States.{State, operation_at}
use Rattle.board_trees.specs.Frames.{IsSeen}
use Rattle.board_trees.specs.Names.{AreMade}
use Rattle.board_trees.specs.Shows.{HoldsMap, IfRuns, IsWithinRoot, Shows, siblings}
use Rattle.board_trees.specs.Stages.{AwaitsOn, ChildrenAre, Fills, HasWait, Stands, WaitsWell}
use Rattle.board_trees.specs.Waits.{Sibling}
use Rattle.board_trees.proofs.Along.{Leaves}
use Rattle.board_trees.proofs.Kept.{all_done_kept, awaits_kept, before_kept}
use Rattle.board_trees.proofs.Open.{IsTold, WereMade}
use Rattle.board_trees.proofs.Settled.{activity_open}
use Rattle.claimed_trees.proofs.Changed.{GoesOn, changed, changes, knots, rows, seen_now, shows_now}
use Rattle.claimed_trees.proofs.Copy.{fills_needed, nothing_left, some_more, something_left}

module _ (job : Job) (s : State) (k : ℕ) (c : Claim) (fill : Option Filling) (activity_is : (operation_at s k).activity ≡ activity.Filling c fill) where
  abbrev G : Ground
  G = regent_ground (spaces_of job.code)

  abbrev pub copied_now : Activity
  copied_now = activity_behind job.code s (operation_at s k) c (moved_on s fill)

  abbrev pub here : Knot
  here = knot_at s.waits.knots k

  -- it gives no value
  pub behind_value : (o : Option Filling) → value_of (activity_behind job.code s (operation_at s k) c o) ≡ pos 0
  behind_value None = refl
  behind_value (Some f) = chosen (f.moved == elements_of f.pieces)
    where
      chosen : (b : Bool) → value_of (cond b (activity.Out c (before_of job.code s (operation_at s k) (Some f))) (activity.Filling c (Some f))) ≡ pos 0
      chosen true = refl
      chosen false = refl

  -- another claim and fill are these
  same_fill : (a : Claim) (b : Option Filling) → (operation_at s k).activity ≡ activity.Filling a b → b ≡ fill
  same_fill a b e = let same : activity.Filling a b ≡ activity.Filling c fill = sym e ∙ activity_is in cc

  module _ (within : k < length s.operations) (there : k < length s.waits.knots) (begun : (knot_at s.waits.knots k).stage ≡ knot.Begun) where
    pub goes_on : GoesOn s k copied_now here s.turns
    goes_on = record {
      within = within;
      there = there;
      done = refl;
      failed = refl;
      runs = ap (λ x. is_over (stage_of x (operation_at s k).wait (operation_at s k).activity)) begun ∙ activity_open (operation_at s k).activity;
      runs_on = ap (λ x. is_over (stage_of x (operation_at s k).wait copied_now)) begun ∙ activity_open copied_now;
      value = behind_value (moved_on s fill) ∙ ap value_of (sym activity_is);
    }

    abbrev u : State
    u = changed s k copied_now here s.turns

    module _ (who : ℕ → ℕ) (ways : List (List ℕ)) (v : List ℕ) (way_is : way_of G (machine_of job) ways k ≡ Some v) (makings : ℕ) (m : Map G)
        (made : AreMade (length s.roots) who makings) (regions : (node : ℕ) → node < length s.tree.nodes → IsWithinRoot job s.tree s.roots node)
        (held : (root : ℕ) → is_live s.map root ≡ true → HoldsMap job s.map s.roots who m root) (own_made : (j : ℕ) → WereMade job s (operation_at s j).frame.own) where
      abbrev M : Machine G
      M = machine_of job makings

      abbrev OwnLeaves : List ℕ → List Sibling → List RootId → List ℕ → Bool → Node G → Type 0
      OwnLeaves w earlier above p before n =
          Leaves job s who ways k goes_on.runs (rows s k copied_now here s.turns) (knots s k copied_now here s.turns) s.turns (changes s k copied_now here s.turns goes_on) v way_is copy makings m
          [] w k earlier above n (step_in G M copy [] p before m n)

      module _ (w : List ℕ) (earlier : List Sibling) (above : List RootId) (D N : List Requirement) (i : ℕ) (f : board.Frame) (ps : List (Element G)) (x : BoardWait G) (d : List (Element G)) (l : List (Spot G)) (is : Items G)
          (e : v ≡ w) (h : Shows job s who ways w k earlier above (op D N i f ps (filling x d l) is)) (told : WereMade job s above) where
        abbrev roots : List RootId
        roots = above ++ (operation_at s k).frame.own

        abbrev children : List Sibling
        children = siblings job (operation_at s k).children is

        were : All (λ (r : RootId). r.0 < length s.roots) roots
        were = All-append (λ (r : RootId). r.0 < length s.roots) above (operation_at s k).frame.own told (own_made k)

        abbrev now : Operation
        now = record (operation_at s k) { activity = copied_now }

        abbrev StandsNow : BoardStage G → Type 0
        StandsNow to = Stands job.code s.roots who roots u here.stage now N to

        waits : HasWait job.code s.roots who roots (operation_at s k) x
        waits = h.0.stands.1.waits

        stands_out : (o : Option Filling) (y : List (Element G)) → Fills job.code s.roots who roots N x o y [] → copied_now ≡ activity.Out c (before_of job.code s (operation_at s k) o) → StandsNow (out x y)
        stands_out o y g q = (
          begun,
          record {
            waits = waits;
            claim = c;
            fill = o;
            activity_is = q ∙ ap (activity.Out c) (sym (before_kept job s (rows s k copied_now here s.turns) (knots s k copied_now here s.turns) s.turns k (changes s k copied_now here s.turns goes_on) (operation_at s k) o));
            fills = g;
          },
        )

        stands_filling : (o : Option Filling) (y : List (Element G)) (z : List (Spot G)) → Fills job.code s.roots who roots N x o y z → copied_now ≡ activity.Filling c o → StandsNow (filling x y z)
        stands_filling o y z g q = (begun, record { waits = waits; claim = c; fill = o; activity_is = q; fills = g })

        -- what the stage of a copied part tells of it
        module _ (y : List (Element G)) where
          copied_seen : (z : List (Spot G)) → IsSeen job.code s.tree s.map s.roots who roots now N f ps → IfRuns job (copied G M x y z) (IsSeen job.code s.tree s.map s.roots who roots now N f ps)
          copied_seen [] g = g
          copied_seen (a ∷ z) g = g

          copied_waits : (z : List (Spot G)) →
              AwaitsOn job.code (knots s k copied_now here s.turns) D N earlier children x here.on × (all_done (knots s k copied_now here s.turns) here.on ≡ true) →
              WaitsWell job.code (knots s k copied_now here s.turns) D N earlier children here.on (copied G M x y z)
          copied_waits [] g = g
          copied_waits (a ∷ z) g = g

          copied_children : (z : List (Spot G)) → ChildrenAre job.code u (operation_at s k).children (copied G M x y z)
          copied_children [] = tt
          copied_children (a ∷ z) = tt

          -- nothing is left, or something is
          stands_copied : (o : Filling) (z : List (Spot G)) → Fills job.code s.roots who roots N x (Some o) y z → copied_now ≡ activity_behind job.code s (operation_at s k) c (Some o) →
              ((o.moved == elements_of o.pieces) ≡ true → z ≡ []) → ((o.moved == elements_of o.pieces) ≡ false → z ≡ [] → ⊥) → StandsNow (copied G M x y z)
          stands_copied o z g q ends goes = chosen (o.moved == elements_of o.pieces) refl z g ends goes
            where
              chosen : (b : Bool) → (o.moved == elements_of o.pieces) ≡ b → (z : List (Spot G)) → Fills job.code s.roots who roots N x (Some o) y z → (b ≡ true → z ≡ []) → (b ≡ false → z ≡ [] → ⊥) →
                  StandsNow (copied G M x y z)
              chosen true r [] g ends goes = stands_out (Some o) y g
                  (q ∙ ap (λ b. cond b (activity.Out c (before_of job.code s (operation_at s k) (Some o))) (activity.Filling c (Some o))) r)
              chosen true r (a ∷ z) g ends goes = absurd (let none : a ∷ z ≡ [] = ends refl in cc)
              chosen false r [] g ends goes = absurd (goes refl refl)
              chosen false r (a ∷ z) g ends goes = stands_filling (Some o) y (a ∷ z) g
                  (q ∙ ap (λ b. cond b (activity.Out c (before_of job.code s (operation_at s k) (Some o))) (activity.Filling c (Some o))) r)

        -- with the next elements
        abbrev more : List (Element G)
        more = d ++ filled G M (take M.chunk l) m

        abbrev rest : List (Spot G)
        rest = drop M.chunk l

        abbrev NoFill : BoardWait G → Type 0
        NoFill y = Fills job.code s.roots who roots N y None [] []

        none_then : fill ≡ None → d ≡ [] → l ≡ [] → Fills job.code s.roots who roots N x None [] [] → StandsNow (copied G M x more rest)
        none_then r no_element no_spot g = subst (λ (z : List (Spot G)). StandsNow (copied G M x (d ++ filled G M (take M.chunk z) m) (drop M.chunk z))) (sym no_spot)
            (subst (λ (y : List (Element G)). StandsNow (out x (y ++ []))) (sym no_element)
            (stands_out None [] g (ap (λ o. activity_behind job.code s (operation_at s k) c (moved_on s o)) r)))

        stands_then : (o : Option Filling) → fill ≡ o → (y : BoardWait G) → x ≡ y → HasWait job.code s.roots who roots (operation_at s k) y →
            Fills job.code s.roots who roots N y o d l → StandsNow (copied G M x more rest)
        stands_then (Some o) r (part key) xe is_wait g =
            let needed = fills_needed job s who makings m made regions held roots were (operation_at s k) N f ps h.0.seen (operation_at s k).wait key o.root o.field is_wait g.key in
            let g2 = some_more job s who makings m made regions held roots were (operation_at s k) N f ps h.0.seen key o d l needed g in
            stands_copied more (chunk_moved s.map o) rest
            (subst (λ (y : BoardWait G). Fills job.code s.roots who roots N y (Some (chunk_moved s.map o)) more rest) (sym xe) g2)
            (ap (λ o. activity_behind job.code s (operation_at s k) c (moved_on s o)) r)
            (nothing_left job s who makings m made regions held roots were (operation_at s k) N f ps h.0.seen key (chunk_moved s.map o) more rest g2)
            (something_left job s who makings m made regions held roots were (operation_at s k) N f ps h.0.seen key (chunk_moved s.map o) more rest g2)
        stands_then None r (part key) xe is_wait g = absurd g
        stands_then (Some o) r first xe is_wait g = absurd g
        stands_then (Some o) r nothing xe is_wait g = absurd g
        stands_then (Some o) r (child n) xe is_wait g = absurd g
        stands_then None r first xe is_wait g = none_then r g.0 g.1 (subst NoFill (sym xe) (refl, refl))
        stands_then None r nothing xe is_wait g = none_then r g.0 g.1 (subst NoFill (sym xe) (refl, refl))
        stands_then None r (child n) xe is_wait g = none_then r g.0 g.1 (subst NoFill (sym xe) (refl, refl))

        pub copy_shows : Shows job u who ways w k earlier above (op D N i f ps (copied G M x more rest) is)
        copy_shows =
            let change = changes s k copied_now here s.turns goes_on in
            shows_now s k copied_now here s.turns goes_on job who ways v way_is w earlier above D N i f ps (filling x d l) is e h (copied G M x more rest)
            (copied_seen more rest (seen_now s k copied_now here s.turns goes_on job who ways v way_is roots N f ps h.0.seen))
            (stands_then h.0.stands.1.fill (sym (same_fill h.0.stands.1.claim h.0.stands.1.fill h.0.stands.1.activity_is)) x refl waits h.0.stands.1.fills)
            (λ q r. let other : knot.Begun ≡ knot.Parked = sym begun ∙ q in cc)
            (copied_waits more rest (
              awaits_kept job s (rows s k copied_now here s.turns) (knots s k copied_now here s.turns) s.turns k change D N earlier children x here.on h.0.waits.0,
              all_done_kept job s (rows s k copied_now here s.turns) (knots s k copied_now here s.turns) s.turns k change here.on ∙ h.0.waits.1,
            ))
            (λ q. h.0.begun q)
            (copied_children more rest)

      not_filling : {A : Type 0} (a : Activity) → (operation_at s k).activity ≡ a → (a ≡ activity.Filling c fill → ⊥) → A
      not_filling a q n = absurd (n (sym q ∙ activity_is))

      pub own_copy : (w : List ℕ) (earlier : List Sibling) (above : List RootId) (p : List ℕ) (before : Bool) (n : Node G) → v ≡ w → Shows job s who ways w k earlier above n →
          IsTold job s earlier above before n → OwnLeaves w earlier above p before n
      own_copy w earlier above p before (op D N i f ps (filling x d l) is) e h t = record {
        left = op D N i f ps (copied G M x (d ++ filled G M (take M.chunk l) m) (drop M.chunk l)) is;
        steps = refl;
        shows = copy_shows w earlier above D N i f ps x d l is e h t.made;
        needs = refl;
        children = refl;
        made = refl;
      }
      own_copy w earlier above p before (op D N i f ps (idle x) is) e h t = not_filling activity.Idle h.0.stands.1.0 (λ q. cc)
      own_copy w earlier above p before (op D N i f ps (out x d) is) e h t =
          not_filling (activity.Out h.0.stands.1.claim (before_of job.code s (operation_at s k) h.0.stands.1.fill)) h.0.stands.1.activity_is (λ q. cc)
      own_copy w earlier above p before (op D N i f ps (closing x) is) e h t =
          ⊎_elim (λ y. not_filling (activity.Closing y.1.own) y.1.activity_is (λ q. cc)) (λ y. absurd (let q : knot.Begun ≡ knot.Stopped = sym begun ∙ y.0 in cc)) h.0.stands
      own_copy w earlier above p before (op D N i f ps (over x) is) e h t =
          ⊎_elim (λ y. absurd (let q : knot.Begun ≡ knot.Done = sym begun ∙ y.0 in cc)) (λ y. absurd (let q : knot.Begun ≡ knot.Failed = sym begun ∙ y.0 in cc)) h.0.stands
      own_copy w earlier above p before (op D N i f ps dropped is) e h t = not_filling activity.Idle h.0.stands.1.0 (λ q. cc)
