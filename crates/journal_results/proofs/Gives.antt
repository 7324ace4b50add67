-- Of boards: a segment is given back on both, or on neither.
use Rattle.std.proofs.Common.{◌≡◌, ◌<◌, ◌-◌, ◌++◌, ◌∷◌, ◌∙◌, ◌==◌, ◌&&◌, ℕ, zero, suc, Bool, List, None, Option, Some, [], ap, cond, length, refl, subst, sym, true, false}
use Rattle.region_tree.specs.Requirements.{Requirement}
use Rattle.region_tree.specs.declared.tree.RootId.{RootId}
use Rattle.dependence_graph.specs.Knots.{knot_at}
use Rattle.dependence_graph.specs.declared.stage.Stage.TheVariants as knot
use Rattle.logical_map.specs.Fills.{Filling}
use Rattle.task_code.specs.declared.job.Job.{Job}
use Rattle.machine_terms.specs.declared.frame.Before.{Before}
use Rattle.machine_terms.specs.Segments.{segment}
use Rattle.board_rules.specs.Boards.{Items, Operation as Node, Stage as BoardStage, Stepped, Wait as BoardWait, awaited, child_count, child_op, closing, dropped, filling, give, given, idle, met_by, no_item, op, out, over, said, settle, step_in}
use Rattle.board_rules.specs.Boards as tree
use Rattle.board_rules.specs.Ground.{Ground}
use Rattle.board_rules.specs.Journals.{stepped}
use Rattle.board_rules.specs.NumberedBoards.{Board, Step, by_way, children_among, children_at, moved, more_ways, way_of}
use Rattle.board_rules.specs.RootNumbers.{made_in}
use Rattle.board_rules.specs.Running.{Element, Machine, Yield as BoardYield, await, calls, ends, make, stops, want}
use Rattle.regent_boards.specs.Frames as board
use Rattle.regent_boards.specs.RegentMachine.{regent_ground}
use Rattle.code_boards.specs.Laws.{machine_of}
use Rattle.code_boards.specs.Views.{spaces_of}
use Rattle.board_terms.specs.declared.claim.Claim.{Claim}
use Rattle.board_terms.specs.declared.operation.Activity.{Activity}
use Rattle.board_terms.specs.declared.operation.Activity.TheVariants as activity
use Rattle.board_terms.specs.Closings.{followed}
use Rattle.board_terms.specs.Gives.{given_after, given_in}
use Rattle.board_terms.specs.Stages.{is_over, stage_of}
use Rattle.board_terms.specs.States.{State, operation_at}
use Rattle.board_trees.specs.Laws.{BothShow}
use Rattle.board_trees.specs.Shows.{Shows, ShowsBoard, is_claimed}
use Rattle.board_trees.specs.Waits.{Sibling}
use Rattle.board_trees.proofs.Claims.{way_there}
use Rattle.board_trees.proofs.Found.{Found, OwnRefuses, found}
use Rattle.claimed_trees.proofs.Back.{IsClaimed, claimed_within, has_begun}
use Rattle.claimed_trees.proofs.Onward.{neither, refuses}
use Rattle.changed_trees.specs.Changes.{IsAt}
use Rattle.changed_trees.specs.Edits.{edited, told_at, up, up_among}
use Rattle.changed_trees.specs.Given.{Opens, effects_of, given_board, left_of, yielded_by}
use Rattle.changed_trees.specs.Open.{ClosingsShow}
use Rattle.changed_trees.proofs.Edited.{step_along}
use Rattle.yielded_trees.proofs.Found.{only_out, out_here}
use Rattle.journal_results.specs.Gives.{GivesShow, YieldsAllOpen}

-- ---- settling keeps how many children there are

module _ (job : Job) (makings : ℕ) where
  abbrev G : Ground
  G = regent_ground (spaces_of job.code)

  abbrev K : ℕ → Machine G
  K = machine_of job

  abbrev M : Machine G
  M = machine_of job makings

  count_swept : (bad : List (List Requirement)) (is : Items G) → child_count G (tree.sweep G M bad is) ≡ child_count G is
  count_swept bad no_item = refl
  count_swept bad (said t is) = count_swept bad is
  count_swept bad (child_op n is) = chosen (tree.is_waiting G (tree.stage_of G n) && tree.meets_any G M bad (tree.needs_of G n))
      (count_swept (tree.needs_of G n ∷ bad) is) (count_swept (cond (tree.has_failed G (tree.stage_of G n)) (tree.needs_of G n ∷ bad) bad) is)
    where
      chosen : (q : Bool) → child_count G (tree.sweep G M (tree.needs_of G n ∷ bad) is) ≡ child_count G is →
          child_count G (tree.sweep G M (cond (tree.has_failed G (tree.stage_of G n)) (tree.needs_of G n ∷ bad) bad) is) ≡ child_count G is →
          child_count G (cond q (child_op (tree.as_dropped G M n) (tree.sweep G M (tree.needs_of G n ∷ bad) is))
          (child_op n (tree.sweep G M (cond (tree.has_failed G (tree.stage_of G n)) (tree.needs_of G n ∷ bad) bad) is))) ≡ suc (child_count G is)
      chosen true a b = ap (λ x. suc x) a
      chosen false a b = ap (λ x. suc x) b

  dropped_count : (way : List ℕ) (n : Node G) → children_at G K way (tree.as_dropped G M n) ≡ children_at G K way n
  dropped_count [] (op D N i f ps st is) = refl
  dropped_count (c ∷ way) (op D N i f ps st is) = refl

  among_swept : (bad : List (List Requirement)) (c : ℕ) (way : List ℕ) (is : Items G) → children_among G K c way (tree.sweep G M bad is) ≡ children_among G K c way is
  among_swept bad c way no_item = refl
  among_swept bad c way (said t is) = among_swept bad c way is
  among_swept bad zero way (child_op n is) = chosen (tree.is_waiting G (tree.stage_of G n) && tree.meets_any G M bad (tree.needs_of G n))
    where
      chosen : (q : Bool) → children_among G K zero way (cond q (child_op (tree.as_dropped G M n) (tree.sweep G M (tree.needs_of G n ∷ bad) is))
          (child_op n (tree.sweep G M (cond (tree.has_failed G (tree.stage_of G n)) (tree.needs_of G n ∷ bad) bad) is))) ≡ children_at G K way n
      chosen true = dropped_count way n
      chosen false = refl
  among_swept bad (suc c) way (child_op n is) = chosen (tree.is_waiting G (tree.stage_of G n) && tree.meets_any G M bad (tree.needs_of G n))
      (among_swept (tree.needs_of G n ∷ bad) c way is) (among_swept (cond (tree.has_failed G (tree.stage_of G n)) (tree.needs_of G n ∷ bad) bad) c way is)
    where
      chosen : (q : Bool) → children_among G K c way (tree.sweep G M (tree.needs_of G n ∷ bad) is) ≡ children_among G K c way is →
          children_among G K c way (tree.sweep G M (cond (tree.has_failed G (tree.stage_of G n)) (tree.needs_of G n ∷ bad) bad) is) ≡ children_among G K c way is →
          children_among G K (suc c) way (cond q (child_op (tree.as_dropped G M n) (tree.sweep G M (tree.needs_of G n ∷ bad) is))
          (child_op n (tree.sweep G M (cond (tree.has_failed G (tree.stage_of G n)) (tree.needs_of G n ∷ bad) bad) is))) ≡ children_among G K c way is
      chosen true a b = a
      chosen false a b = b

  mutual
    children_up : (way : List ℕ) (n : Node G) → children_at G K way (up G M way n) ≡ children_at G K way n
    children_up [] (op D N i f ps st is) = count_swept [] is
    children_up (c ∷ way) (op D N i f ps st is) = among_swept [] c way (up_among G M c way is) ∙ children_up_among c way is

    children_up_among : (c : ℕ) (way : List ℕ) (is : Items G) → children_among G K c way (up_among G M c way is) ≡ children_among G K c way is
    children_up_among c way no_item = refl
    children_up_among c way (said t is) = children_up_among c way is
    children_up_among zero way (child_op n is) = children_up way n
    children_up_among (suc c) way (child_op n is) = children_up_among c way is

  -- what a yield makes of an operation doesn't depend on where it is
  given_here : (p : List ℕ) (D N : List Requirement) (i : ℕ) (is : Items G) (t : List ℕ) (f : board.Frame) (ps : List (Element G)) (y : BoardYield G) →
      given G M p D N i is t f ps y ≡ given G M [] D N i is t f ps y
  given_here p D N i is t f ps (calls xs) = refl
  given_here p D N i is t f ps (want k) = refl
  given_here p D N i is t f ps (await c) = refl
  given_here p D N i is t f ps (make d) = refl
  given_here p D N i is t f ps (ends v) = refl
  given_here p D N i is t f ps (stops x) = refl

module _ (opening : YieldsAllOpen) (closings : ClosingsShow) (job : Job) (s : State) (b : Board (regent_ground (spaces_of job.code))) (h : ShowsBoard job s b) (k seat : ℕ) where
  abbrev step : Step
  step = record { kind = give; number = k; seat = seat }

  abbrev from : ℕ
  from = made_in (G job 0) (K job 0) b.state.tree

  -- ---- one that is out

  module _ (c : Claim) (before : Before) (activity_is : (operation_at s k).activity ≡ activity.Out c before) where
    claim : IsClaimed (operation_at s k).activity
    claim = subst IsClaimed (sym activity_is) tt

    within : k < length s.operations
    within = claimed_within s k claim

    module _ (v : List ℕ) (way_is : IsAt job b.ways k v) where
      at : Found job s h.who b.ways k
      at = found job s h.who b.ways k v [] 0 [] [] b.state.tree h.shows (h.leads k v way_is)

      begun : (knot_at s.waits.knots k).stage ≡ knot.Begun
      begun = has_begun job s k claim h.who b.ways at.way at.earlier at.above at.node at.shows

      runs : is_over (stage_of (knot_at s.waits.knots k).stage (operation_at s k).wait (operation_at s k).activity) ≡ false
      runs = ap (λ x. is_over (stage_of x (operation_at s k).wait (operation_at s k).activity)) begun ∙ ap (λ x. is_over (stage_of knot.Begun (operation_at s k).wait x)) activity_is

      -- in the tree
      own_give : (p : List ℕ) (told : Bool) (w : List ℕ) (earlier : List Sibling) (above : List RootId) (n : Node (G job from)) → Shows job s h.who b.ways w k earlier above n →
          step_in (G job from) (M job from) give [] p told b.state.map n ≡ Some (record { left = settle (G job from) (M job from) (left_of job from n); effects = effects_of job from n })
      own_give p told w earlier above (op D N i f ps st is) shown =
          only_out job s h.who (above ++ (operation_at s k).frame.own) (knot_at s.waits.knots k).stage (operation_at s k) N (out_here job s b h k v way_is c before activity_is) st shown.0.stands
          (λ x d e. subst (λ st. step_in (G job from) (M job from) give [] p told b.state.map (op D N i f ps st is)
          ≡ Some (record { left = settle (G job from) (M job from) (left_of job from (op D N i f ps st is)); effects = effects_of job from (op D N i f ps st is) })) (sym e)
          (let a = (M job from).segment (met_by (G job from) (M job from) x f (awaited (G job from) (M job from) x is)) (ps ++ d) in
          ap (λ (z : Stepped (G job from) (Node (G job from))). Some (record { left = settle (G job from) (M job from) z.left; effects = z.effects }))
          (given_here job from p D N i is a.text a.frame a.parts a.yields)))

      abbrev tree_left : Node (G job from)
      tree_left = edited (G job from) v (left_of job from) b.state.tree

      steps : step_in (G job from) (M job from) give v [] true b.state.map b.state.tree
          ≡ Some (record { left = up (G job from) (M job from) v tree_left; effects = told_at (G job from) v (effects_of job from) b.state.tree })
      steps = step_along job s h.who b.ways from k runs give b.state.map (left_of job from) (effects_of job from) own_give v [] 0 [] [] [] true b.state.tree (h.leads k v way_is) h.shows

      opens : Opens job b k v s before
      opens = opening job s b h k v way_is c before activity_is

      abbrev tree_open : Node (G job from)
      tree_open = edited (G job from) v opens.change b.state.tree

      abbrev closed_board : Board (G job from)
      closed_board = record (given_board job b k v tree_open) {
        state = record { tree = up (G job from) (M job from) v tree_open; map = (given_board job b k v tree_open).state.map };
      }

      closed_shows : ShowsBoard job (followed (yielded_by job s k before) k) closed_board
      closed_shows = closings job (yielded_by job s k before) (given_board job b k v tree_open) k v opens.leaves from

      as_many : children_at (G job from) (K job from) v (up (G job from) (M job from) v tree_left) ≡ children_at (G job from) (K job from) v tree_open
      as_many = ap (children_at (G job from) (K job from) v) (sym opens.same) ∙ children_up job from v tree_open

      board_is : by_way (G job from) (K job from) b step (Some v) ≡ Some closed_board
      board_is =
          ap (λ o. moved (G job from) (K job from) b step v (stepped (G job from) (M job from) b.state.map o)) steps
          ∙ (λ i. Some (record {
            state = record { tree = sym opens.same i; map = (given_board job b k v tree_open).state.map };
            ways = b.ways ++ more_ways (G job from) (K job from) v (children_at (G job from) (K job from) v b.state.tree) (as_many i - children_at (G job from) (K job from) v b.state.tree);
            claims = closed_board.claims;
            turns = b.turns;
          }))

      goes : BothShow job (Some (given_after job.code job.turns s k (segment before))) (by_way (G job from) (K job from) b step (Some v))
      goes = subst (λ o. BothShow job (Some (given_after job.code job.turns s k (segment before))) o) (sym board_is) closed_shows

    by_found : (o : Option (List ℕ)) → way_of (G job 0) (K job 0) b.ways k ≡ o → BothShow job (Some (given_after job.code job.turns s k (segment before))) (by_way (G job 0) (K job 0) b step o)
    by_found None e = absurd (way_there job b.ways k (subst (λ x. k < x) (sym h.ways) within) e)
    by_found (Some v) e = goes v e

  -- ---- one that is being filled isn't out

  module _ (c : Claim) (fill : Option Filling) (activity_is : (operation_at s k).activity ≡ activity.Filling c fill) where
    filling_refuses : OwnRefuses job s h.who b.ways k give from b.state.map
    filling_refuses w earlier above p told (op D N i f ps (out x d) is) g t =
        absurd (let q : activity.Filling c fill ≡ activity.Out g.0.stands.1.claim _ = sym activity_is ∙ g.0.stands.1.activity_is in cc)
    filling_refuses w earlier above p told (op D N i f ps (filling x d l) is) g t = refl
    filling_refuses w earlier above p told (op D N i f ps (idle x) is) g t = refl
    filling_refuses w earlier above p told (op D N i f ps (closing x) is) g t = refl
    filling_refuses w earlier above p told (op D N i f ps (over x) is) g t = refl
    filling_refuses w earlier above p told (op D N i f ps dropped is) g t = refl

    by_filling : (o : Option (List ℕ)) → way_of (G job 0) (K job 0) b.ways k ≡ o → BothShow job None (by_way (G job 0) (K job 0) b step o)
    by_filling None e = tt
    by_filling (Some v) e = neither job (by_way (G job 0) (K job 0) b step (Some v)) (refuses job s b h k seat give v e filling_refuses)

  by_seat : (x : Bool) (c : Claim) (before : Before) → (operation_at s k).activity ≡ activity.Out c before →
      BothShow job (cond x (Some (given_after job.code job.turns s k (segment before))) None) (cond x (by_way (G job 0) (K job 0) b step (way_of (G job 0) (K job 0) b.ways k)) None)
  by_seat true c before e = by_found c before e (way_of (G job 0) (K job 0) b.ways k) refl
  by_seat false c before e = tt

  by_seat_filling : (x : Bool) (c : Claim) (fill : Option Filling) → (operation_at s k).activity ≡ activity.Filling c fill →
      BothShow job None (cond x (by_way (G job 0) (K job 0) b step (way_of (G job 0) (K job 0) b.ways k)) None)
  by_seat_filling true c fill e = by_filling c fill e (way_of (G job 0) (K job 0) b.ways k) refl
  by_seat_filling false c fill e = tt

  pub by_activity : (a : Activity) → (operation_at s k).activity ≡ a →
      BothShow job (given_in job.code job.turns s k seat a) (cond (is_claimed job seat a) (by_way (G job 0) (K job 0) b step (way_of (G job 0) (K job 0) b.ways k)) None)
  by_activity activity.Idle e = tt
  by_activity (activity.Filling c fill) e = by_seat_filling (c.seat == seat) c fill e
  by_activity (activity.Out c before) e = by_seat (c.seat == seat) c before e
  by_activity (activity.Closing x) e = tt

pub gives_show_by : YieldsAllOpen → ClosingsShow → GivesShow
gives_show_by opening closings job s b h k seat =
    subst (λ x. BothShow job (given_in job.code job.turns s k seat (operation_at s k).activity)
    (cond x (by_way (G job 0) (K job 0) b (record { kind = give; number = k; seat = seat }) (way_of (G job 0) (K job 0) b.ways k)) None))
    (sym (h.claims k seat)) (by_activity opening closings job s b h k seat (operation_at s k).activity refl)
