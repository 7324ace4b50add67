-- The operation that is out: its row, its roots, and what its segment yields.
use Rattle.std.proofs.Common.{◌≡◌, ◌<◌, ◌++◌, ◌∙◌, ℕ, List, Some, [], ap, length, subst, sym}
use Rattle.std.specs.Prelude.{All}
use Rattle.std.proofs.lemmas.List.Elements.{All-append}
use Rattle.region_tree.specs.Requirements.{Requirement}
use Rattle.region_tree.specs.declared.tree.RootId.{RootId}
use Rattle.dependence_graph.specs.Knots.{knot_at, stage_at}
use Rattle.dependence_graph.specs.declared.stage.Stage.TheVariants as knot
use Rattle.task_code.specs.declared.job.Job.{Job}
use Rattle.machine_terms.specs.Segments.{segment}
use Rattle.machine_terms.specs.declared.frame.Before.{Before}
use Rattle.machine_terms.specs.declared.frame.Frame.{Frame}
use Rattle.machine_terms.specs.declared.outcome.Yield.{Yield}
use Rattle.board_rules.specs.Boards.{Items, Wait as BoardWait, awaited, given, met_by, op, out}
use Rattle.board_rules.specs.Ground.{Ground}
use Rattle.board_rules.specs.NumberedBoards.{Board}
use Rattle.board_rules.specs.Running.{After as BoardAfter, Element, Machine}
use Rattle.regent_boards.specs.Frames as board
use Rattle.regent_boards.specs.RegentMachine.{regent_ground}
use Rattle.segment_renaming.specs.Renaming.{yield_to}
use Rattle.code_boards.specs.Laws.{machine_of}
use Rattle.code_boards.specs.Views.{spaces_of, yield_out}
use Rattle.board_terms.specs.declared.claim.Claim.{Claim}
use Rattle.board_terms.specs.declared.operation.Activity.{Activity}
use Rattle.board_terms.specs.declared.operation.Activity.TheVariants as activity
use Rattle.board_terms.specs.States.{State, operation_at}
use Rattle.board_trees.specs.Names.{IsNaming, named}
use Rattle.board_trees.specs.Places.{LeavesPlaces}
use Rattle.board_trees.specs.Shows.{Shows, ShowsBoard}
use Rattle.board_trees.specs.Waits.{Sibling}
use Rattle.board_trees.proofs.Named.{is_naming, named_all}
use Rattle.board_trees.proofs.Told.{stage_there}
use Rattle.given_trees.specs.Segments.{AreLeft}
use Rattle.given_trees.proofs.Left.{left_places}
use Rattle.given_trees.proofs.Segments.{segments_show}
use Rattle.changed_trees.specs.Changes.{IsAt}
use Rattle.changed_trees.specs.Given.{makings_before}
use Rattle.yielded_trees.proofs.Found.{known_out}

-- the row is there, and the graph knows that it began
pub record Begun (s : State) (k : ℕ) : Type 0 where
  pub within : k < length s.operations
  pub there : k < length s.waits.knots
  pub stage : (knot_at s.waits.knots k).stage ≡ knot.Begun
  pub was : stage_at s.waits.knots k ≡ Some knot.Begun

-- what was handed out of one that is out
abbrev handed_out : Before → Activity → Before
handed_out q (activity.Out c r) = r
handed_out q _ = q

module _ (job : Job) (s : State) (b : Board (regent_ground (spaces_of job.code))) (h : ShowsBoard job s b) (k : ℕ) (v : List ℕ) (at : IsAt job b.ways k v)
    (claim : Claim) (before : Before) (act : (operation_at s k).activity ≡ activity.Out claim before) where
  abbrev G : Ground
  G = regent_ground (spaces_of job.code)

  abbrev makings : ℕ
  makings = makings_before job b k v

  abbrev M : Machine G
  M = machine_of job makings

  pub has_begun : Begun s k
  has_begun = known_out job s b h k v at claim before act (λ earlier above D N i f ps w d is below x. record {
    within = x.0.within;
    there = x.0.knot;
    stage = x.0.stands.0;
    was = stage_there s.waits.knots k x.0.knot ∙ ap Some x.0.stands.0;
  })

  -- a segment makes no roots itself: the frame that goes on has those that the operation had
  pub own_stays : (g : Frame) → (segment before).frame ≡ Some g → g.own ≡ (operation_at s k).frame.own
  own_stays g goes = known_out job s b h k v at claim before act
      (λ earlier above D N i f ps w d is below x. ((segments_show job s b h v k earlier above D N i f ps d w is x below claim before act makings).kept g goes).1)

  abbrev name : ℕ → ℕ
  name = named_all s.roots h.who makings h.made 0

  -- its roots and its callers' have names
  pub names_below : (above : List RootId) → All (λ (r : RootId). r.0 < length s.roots) above → IsNaming s.roots h.who (above ++ (operation_at s k).frame.own) name
  names_below above below = is_naming s.roots h.who makings h.made 0 (above ++ (operation_at s k).frame.own)
      (All-append (λ (r : RootId). r.0 < length s.roots) above (operation_at s k).frame.own below (h.own_made k))

  module _ (earlier : List Sibling) (above : List RootId) (D N : List Requirement) (i : ℕ) (f : board.Frame) (ps : List (Element G)) (w : BoardWait G) (d : List (Element G)) (is : Items G)
      (below : All (λ (r : RootId). r.0 < length s.roots) above) (x : Shows job s h.who b.ways v k earlier above (op D N i f ps (out w d) is)) where
    abbrev met : board.Frame
    met = met_by G M w f (awaited G M w is)

    abbrev a : BoardAfter G
    a = M.segment met (ps ++ d)

    pub leaves_places : LeavesPlaces s.tree (segment before)
    leaves_places = subst (λ (q : Before). LeavesPlaces s.tree (segment q)) (sym (ap (handed_out before) (sym act ∙ x.0.stands.1.activity_is)))
        (left_places job s (operation_at s k) x.0.stands.1.fill x.0.seen.placed)

    -- what the yield makes of it in the tree
    pub given_is : (y : Yield) → (segment before).ends ≡ y → given G M [] D N i is a.text a.frame a.parts a.yields ≡ given G M [] D N i is a.text a.frame a.parts (yield_out job.code job.turns met (yield_to (named name) y))
    given_is y e =
        let left : AreLeft job s h.who (above ++ (operation_at s k).frame.own) (operation_at s k) N met (segment before) a =
        segments_show job s b h v k earlier above D N i f ps d w is x below claim before act makings in
        ap (given G M [] D N i is a.text a.frame a.parts) (left.yields name (names_below above below) ∙ ap (λ y. yield_out job.code job.turns met (yield_to (named name) y)) e)
