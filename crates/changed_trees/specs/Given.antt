-- A give in two: what the segment makes of its operation, and what follows. The first leaves an open board.
use Rattle.std.specs.Prelude.{◌≡◌, ◌++◌, ◌-◌, ℕ, List, []}
use Rattle.task_code.specs.declared.job.Job.{Job}
use Rattle.machine_terms.specs.declared.frame.Before.{Before}
use Rattle.machine_terms.specs.declared.outcome.Yield.{Yield}
use Rattle.machine_terms.specs.Segments.{segment}
use Rattle.board_rules.specs.Boards.{Operation as Node, Stepped, after_segment, awaited, met_by, op, out}
use Rattle.board_rules.specs.NumberedBoards.{Board, children_at, more_ways, without}
use Rattle.board_rules.specs.Processes.{Effect, run_all}
use Rattle.board_rules.specs.RootNumbers.{made_in}
use Rattle.regent_boards.specs.RegentMachine.{regent_ground}
use Rattle.code_boards.specs.Laws.{machine_of}
use Rattle.code_boards.specs.Views.{spaces_of}
use Rattle.board_terms.specs.declared.claim.Claim.{Claim}
use Rattle.board_terms.specs.declared.operation.Activity.TheVariants as activity
use Rattle.board_terms.specs.Gives.{behind_segment, yielded}
use Rattle.board_terms.specs.States.{State, operation_at, with_operation}
use Rattle.board_trees.specs.Shows.{ShowsBoard}
use Rattle.changed_trees.specs.Changes.{IsAt}
use Rattle.changed_trees.specs.Edits.{edited, told_at, up}
use Rattle.changed_trees.specs.Open.{OpenBoard}

-- ---- in the tree

module _ (job : Job) (makings : ℕ) where
  -- what the segment makes of an operation that is out, before anything is settled
  abbrev pub given_of : Node (regent_ground (spaces_of job.code)) → Stepped (regent_ground (spaces_of job.code)) (Node (regent_ground (spaces_of job.code)))
  given_of (op D N i f ps (out w d) is) =
      let G = regent_ground (spaces_of job.code) in
      let M = machine_of job makings in
      after_segment G M [] D N i is (M.segment (met_by G M w f (awaited G M w is)) (ps ++ d))
  given_of n = record { left = n; effects = [] }

  abbrev pub left_of : Node (regent_ground (spaces_of job.code)) → Node (regent_ground (spaces_of job.code))
  left_of n = (given_of n).left

  abbrev pub effects_of : Node (regent_ground (spaces_of job.code)) → List (Effect (regent_ground (spaces_of job.code)))
  effects_of n = (given_of n).effects

-- ---- on the table

abbrev pub yielded_by : Job → State → ℕ → Before → State
yielded_by job s k before =
    yielded job.code job.turns (with_operation s k (behind_segment (operation_at s k) (segment before))) k (segment before).ends

-- ---- both

module _ (job : Job) (b : Board (regent_ground (spaces_of job.code))) (k : ℕ) (v : List ℕ) where
  abbrev pub makings_before : ℕ
  makings_before = made_in (regent_ground (spaces_of job.code)) (machine_of job) b.state.tree

  -- the board with such a tree, behind the operation's give
  abbrev pub given_board : Node (regent_ground (spaces_of job.code)) → Board (regent_ground (spaces_of job.code))
  given_board tree = record {
    state = record {
      tree = tree;
      map = run_all (regent_ground (spaces_of job.code)) (told_at (regent_ground (spaces_of job.code)) v (effects_of job makings_before) b.state.tree) b.state.map;
    };
    ways = b.ways ++ more_ways (regent_ground (spaces_of job.code)) (machine_of job) v (children_at (regent_ground (spaces_of job.code)) (machine_of job) v b.state.tree)
        (children_at (regent_ground (spaces_of job.code)) (machine_of job) v tree - children_at (regent_ground (spaces_of job.code)) (machine_of job) v b.state.tree);
    claims = without (regent_ground (spaces_of job.code)) (machine_of job) k b.claims;
    turns = b.turns;
  }

  -- The yield leaves an open board, in whose tree the operation is changed to what comes to the same when it is settled.
  pub record Opens (s : State) (before : Before) : Type 0 where
    pub change : Node (regent_ground (spaces_of job.code)) → Node (regent_ground (spaces_of job.code))
    pub leaves : OpenBoard job (yielded_by job s k before) (given_board (edited (regent_ground (spaces_of job.code)) v change b.state.tree)) k v
    pub same : up (regent_ground (spaces_of job.code)) (machine_of job makings_before) v (edited (regent_ground (spaces_of job.code)) v change b.state.tree)
        ≡ up (regent_ground (spaces_of job.code)) (machine_of job makings_before) v (edited (regent_ground (spaces_of job.code)) v (left_of job makings_before) b.state.tree)

-- whatever a segment that ends so leaves
abbrev pub YieldsOpen : (Yield → Type 0) → Type 0
YieldsOpen IsSo = (job : Job) (s : State) (b : Board (regent_ground (spaces_of job.code))) → ShowsBoard job s b → (k : ℕ) (v : List ℕ) → IsAt job b.ways k v →
    (claim : Claim) (before : Before) → (operation_at s k).activity ≡ activity.Out claim before → IsSo (segment before).ends → Opens job b k v s before
