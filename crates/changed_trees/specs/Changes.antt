-- Where a state changes at some places of the tree, what it shows elsewhere goes on to be shown.
use Rattle.std.specs.Prelude.{◌≡◌, ◌<◌, ◌⊎◌, ◌++◌, ℕ, All, List, Some, false, length, true}
use Rattle.std.specs.List.{Contains}
use Rattle.region_finder.specs.Listings.{Listed}
use Rattle.region_tree.specs.Trees.{node_at}
use Rattle.region_tree.specs.declared.tree.RootId.{RootId}
use Rattle.logical_map.specs.Maps.{columns_of, is_live}
use Rattle.dependence_graph.specs.Knots.{is_idle, knot_at, number, some_failed}
use Rattle.task_code.specs.declared.job.Job.{Job}
use Rattle.board_rules.specs.Boards.{Operation as Node}
use Rattle.board_rules.specs.NumberedBoards.{way_of}
use Rattle.regent_boards.specs.RegentMachine.{regent_ground}
use Rattle.code_boards.specs.Laws.{machine_of}
use Rattle.code_boards.specs.Views.{spaces_of}
use Rattle.board_terms.specs.Closings.{all_over}
use Rattle.board_terms.specs.States.{State, operation_at}
use Rattle.board_trees.specs.Names.{AreMade, name_of}
use Rattle.board_trees.specs.Shows.{Shows}
use Rattle.board_trees.specs.Waits.{Sibling, has_ended}

-- the roots are among the others, and those more are there
pub record IsWider (u : State) (roots more : List RootId) : Type 0 where
  pub kept : All (Contains more) roots
  pub added : All (λ (r : RootId). Contains roots r ⊎ (is_live u.map r.0 ≡ true)) more

module _ (job : Job) where
  abbrev pub IsAt : List (List ℕ) → ℕ → List ℕ → Type 0
  IsAt ways k way = way_of (regent_ground (spaces_of job.code)) (machine_of job) ways k ≡ Some way

  -- What others see stays: rows but at the places that are told, with what is listed of their children, what has ended, whose
  -- parents are whose, the regions, the names of roots, and which roots and fields are there. What waits elsewhere waits for
  -- none that has failed.
  pub record Change (s u : State) (who now : ℕ → ℕ) (ways later : List (List ℕ)) (At : List ℕ → Type 0) : Type 0 where
    pub size : (k : ℕ) → k < length s.operations → k < length u.operations
    pub knots : (k : ℕ) → k < length s.waits.knots → k < length u.waits.knots
    pub way : (k : ℕ) (w : List ℕ) → IsAt ways k w → IsAt later k w
    pub row : (k : ℕ) (w : List ℕ) → IsAt ways k w → ¬ At w → operation_at u k ≡ operation_at s k
    pub knot : (k : ℕ) (w : List ℕ) → IsAt ways k w → ¬ At w → knot_at u.waits.knots k ≡ knot_at s.waits.knots k
    pub ended : (k : ℕ) → has_ended s.waits.knots k ≡ true → has_ended u.waits.knots k ≡ true
    pub answers : (k : ℕ) → has_ended s.waits.knots k ≡ true → (operation_at u k).activity ≡ (operation_at s k).activity
    pub failed : (k : ℕ) (w : List ℕ) → IsAt ways k w → ¬ At w → is_idle (knot_at s.waits.knots k).stage ≡ true →
        some_failed s.waits.knots (knot_at s.waits.knots k).on ≡ false → some_failed u.waits.knots (knot_at s.waits.knots k).on ≡ false
    pub over : (k : ℕ) (w : List ℕ) → IsAt ways k w → ¬ At w → all_over u (operation_at s k).children ≡ all_over s (operation_at s k).children
    pub parent : (k : ℕ) → k < length s.operations → (operation_at u k).parent ≡ (operation_at s k).parent
    pub nodes : (n : ℕ) → n < length s.tree.nodes → (n < length u.tree.nodes) × (node_at u.tree n ≡ node_at s.tree n)
    pub names : (r : ℕ) → r < length s.roots → name_of u.roots now r ≡ name_of s.roots who r
    pub there : (r : ℕ) → is_live s.map r ≡ true → is_live u.map r ≡ true
    pub fields : (r field : ℕ) → field < length (columns_of s.map r) → field < length (columns_of u.map r)
    pub entries : (k : ℕ) (w : List ℕ) → IsAt ways k w → ¬ At w → (e : Listed) → e.context ≡ number k → has_ended u.waits.knots e.op.0 ≡ false →
        Contains s.waits.listing e → Contains u.waits.listing e

-- an operation that shows, and all below it, show again where nothing changes there, be it that its callers made roots
abbrev pub ChangesKeep : Type 0
ChangesKeep = (job : Job) (s u : State) (who now : ℕ → ℕ) (ways later changed : List (List ℕ)) (makings : ℕ) →
    Change job s u who now ways later (Contains changed) →
    AreMade (length s.roots) who makings → ((k : ℕ) → All (λ (r : RootId). r.0 < length s.roots) (operation_at s k).frame.own) →
    (way : List ℕ) (k : ℕ) (earlier : List Sibling) (above more : List RootId) (n : Node (regent_ground (spaces_of job.code))) → IsWider u above more →
    All (λ (r : RootId). r.0 < length s.roots) above → ((z : List ℕ) → ¬ Contains changed (way ++ z)) → Shows job s who ways way k earlier above n → Shows job u now later way k earlier more n
