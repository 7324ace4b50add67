-- A board that is shown but for one operation that may be over: its own work has ended, and its children may all be over.
-- What follows then closes it, and maybe its callers.
use Rattle.std.specs.Prelude.{◌≡◌, ◌<◌, ◌++◌, ◌∷◌, ◌-◌, ℕ, zero, suc, List, [], All, false, filter, length, map, not, true}
use Rattle.plain_values.specs.Points.{counted_from}
use Rattle.region_finder.specs.Listings.{AreRising, listed_ops}
use Rattle.region_tree.specs.Requirements.{Requirement}
use Rattle.region_tree.specs.declared.tree.OpNumber.{OpNumber}
use Rattle.region_tree.specs.declared.tree.RootId.{RootId}
use Rattle.logical_map.specs.Maps.{is_live}
use Rattle.dependence_graph.specs.Knots.{knot_at, number}
use Rattle.dependence_graph.specs.declared.stage.Stage.TheVariants.{Parked}
use Rattle.task_code.specs.declared.job.Job.{Job}
use Rattle.board_rules.specs.Boards.{Items, Operation as Node, Stage as BoardStage, child_op, first, idle, is_over, no_item, op, said}
use Rattle.board_rules.specs.NumberedBoards.{Board, holds_claim}
use Rattle.board_rules.specs.RootNumbers.{made_in}
use Rattle.board_rules.specs.Running.{Element}
use Rattle.regent_boards.specs.Frames as board
use Rattle.regent_boards.specs.RegentMachine.{regent_ground}
use Rattle.code_boards.specs.Laws.{machine_of}
use Rattle.code_boards.specs.Views.{spaces_of}
use Rattle.board_terms.specs.Closings.{followed}
use Rattle.board_terms.specs.States.{State, operation_at}
use Rattle.board_trees.specs.Frames.{IsSeen}
use Rattle.board_trees.specs.Names.{AreMade, IsNaming}
use Rattle.board_trees.specs.Shows.{AreListed, HoldsMap, IfRuns, IsChild, IsWithinRoot, Leads, Row, Shows, ShowsBoard, ShowsChildren, is_claimed, needs_issued, said_in, siblings}
use Rattle.board_trees.specs.Stages.{Stands, WaitsWell, was_begun}
use Rattle.board_trees.specs.Waits.{Sibling, all_clear, has_ended}
use Rattle.changed_trees.specs.Changes.{IsAt}
use Rattle.changed_trees.specs.Edits.{up}

module _ (job : Job) (s : State) (who : ℕ → ℕ) (ways : List (List ℕ)) where
  -- a row of one that isn't over, but for whether all children are
  pub record OpenRow (way : List ℕ) (k : ℕ) (earlier : List Sibling) (roots : List RootId) (D N : List Requirement) (f : board.Frame)
      (ps : List (Element (regent_ground (spaces_of job.code)))) (st : BoardStage (regent_ground (spaces_of job.code)))
      (is : Items (regent_ground (spaces_of job.code))) : Type 0 where
    pub within : k < length s.operations
    pub knot : k < length s.waits.knots
    pub way_is : IsAt job ways k way
    pub going : is_over (regent_ground (spaces_of job.code)) st ≡ false
    pub own : (name : ℕ → ℕ) → IsNaming s.roots who roots name → f.own ≡ map (λ (r : RootId). name r.0) (operation_at s k).frame.own
    pub seen : IfRuns job st (IsSeen job.code s.tree s.map s.roots who roots (operation_at s k) N f ps)
    pub said_is : said_in job 0 is ≡ (operation_at s k).said
    pub stands : Stands job.code s.roots who roots s (knot_at s.waits.knots k).stage (operation_at s k) N st
    pub free : (knot_at s.waits.knots k).stage ≡ Parked → st ≡ idle first → (knot_at s.waits.knots k).on ≡ []
    pub waits : WaitsWell job.code s.waits.knots D N earlier (siblings job (operation_at s k).children is) (knot_at s.waits.knots k).on st
    pub begun : was_begun (knot_at s.waits.knots k).stage ≡ true → all_clear s.waits.knots D earlier ≡ true
    pub listed : AreListed job s who roots k (siblings job (operation_at s k).children is)

  -- it shows, but for that
  abbrev pub IsOpen : List ℕ → ℕ → List Sibling → List RootId → Node (regent_ground (spaces_of job.code)) → Type 0
  IsOpen way k earlier above (op D N i f ps st is) =
      OpenRow way k earlier (above ++ (operation_at s k).frame.own) D N f ps st is
      × ShowsChildren job s who ways way k 0 [] (above ++ (operation_at s k).frame.own) (operation_at s k).children is

-- what is asked of an operation: its way, its number, its earlier siblings, and the roots of its callers
abbrev pub Asked : Job → Type 1
Asked job = List ℕ → ℕ → List Sibling → List RootId → Node (regent_ground (spaces_of job.code)) → Type 0

-- it holds of the operation at a way, and all on the way to it and beside show
module _ (job : Job) (s : State) (who : ℕ → ℕ) (ways : List (List ℕ)) (B : Asked job) where
  abbrev mutual
    pub HasAt : List ℕ → List ℕ → ℕ → List Sibling → List RootId → Node (regent_ground (spaces_of job.code)) → Type 0
    HasAt [] w k earlier above n = B w k earlier above n
    HasAt (c ∷ way) w k earlier above (op D N i f ps st is) =
        Row job s who ways w k earlier (above ++ (operation_at s k).frame.own) D N f ps st is
        × HasAmong c way w k 0 [] (above ++ (operation_at s k).frame.own) (operation_at s k).children is

    pub HasAmong : ℕ → List ℕ → List ℕ → ℕ → ℕ → List Sibling → List RootId → List OpNumber → Items (regent_ground (spaces_of job.code)) → Type 0
    HasAmong c way w j d earlier roots ks no_item = ⊥
    HasAmong c way w j d earlier roots ks (said t is) = HasAmong c way w j d earlier roots ks is
    HasAmong c way w j d earlier roots [] (child_op n is) = ⊥
    HasAmong zero way w j d earlier roots (k ∷ ks) (child_op n is) =
        IsChild job s who ways j k.0
        × HasAt way (w ++ d ∷ []) k.0 earlier roots n
        × ShowsChildren job s who ways w j (suc d) (earlier ++ record { op = k.0; needs = needs_issued job n } ∷ []) roots ks is
    HasAmong (suc c) way w j d earlier roots (k ∷ ks) (child_op n is) =
        IsChild job s who ways j k.0
        × Shows job s who ways (w ++ d ∷ []) k.0 earlier roots n
        × HasAmong c way w j (suc d) (earlier ++ record { op = k.0; needs = needs_issued job n } ∷ []) roots ks is

-- ---- a board

-- it shows, but that operation k at a way may be over
pub record OpenBoard (job : Job) (s : State) (b : Board (regent_ground (spaces_of job.code))) (k : ℕ) (v : List ℕ) : Type 0 where
  pub who : ℕ → ℕ
  pub extents : length s.roots ≡ s.tree.roots
  pub made : AreMade (length s.roots) who (made_in (regent_ground (spaces_of job.code)) (machine_of job) b.state.tree)
  pub regions : (node : ℕ) → node < length s.tree.nodes → IsWithinRoot job s.tree s.roots node
  pub held : (root : ℕ) → is_live s.map root ≡ true → HoldsMap job s.map s.roots who b.state.map root
  pub rising : (j : ℕ) → AreRising (operation_at s j).children
  pub first : All (λ (r : RootId). is_live s.map r.0 ≡ true) (operation_at s 0).frame.own
  pub own_made : (j : ℕ) → All (λ (r : RootId). r.0 < length s.roots) (operation_at s j).frame.own
  pub own_apart : (i j : ℕ) → ¬ (i ≡ j) →
      All (λ (r : RootId). All (λ (q : RootId). ¬ (r ≡ q)) (operation_at s j).frame.own) (operation_at s i).frame.own
  pub shows : HasAt job s who b.ways (λ w j earlier above n. (j ≡ k) × IsOpen job s who b.ways w j earlier above n) v [] 0 [] [] b.state.tree
  pub leads : (j : ℕ) (way : List ℕ) → IsAt job b.ways j way → Leads job s 0 way j
  pub ways : length b.ways ≡ length s.operations
  pub knots : length s.waits.knots ≡ length s.operations
  pub listed : listed_ops s.waits.listing
      ≡ map number (filter (λ j. not (has_ended s.waits.knots j)) (counted_from 1 (length s.operations - 1)))
  pub claims : (j seat : ℕ) → holds_claim (regent_ground (spaces_of job.code)) (machine_of job) j seat b.claims ≡ is_claimed job seat (operation_at s j).activity
  pub turns : b.turns ≡ s.turns

-- What follows closes the operation where it is over, and its callers that are over then, drops those that wait for one that
-- failed, and stops callers that do: so does settling the operation in the tree and all above it. Then all shows.
abbrev pub ClosingsShow : Type 0
ClosingsShow = (job : Job) (s : State) (b : Board (regent_ground (spaces_of job.code))) (k : ℕ) (v : List ℕ) → OpenBoard job s b k v → (makings : ℕ) →
    ShowsBoard job (followed s k) (record b {
      state = record { tree = up (regent_ground (spaces_of job.code)) (machine_of job makings) v b.state.tree; map = b.state.map };
    })
