-- What the graph lists of an operation's children.
use Rattle.std.specs.Prelude.{◌≡◌, ◌<◌, ◌++◌, ℕ, All, List, length, map}
use Rattle.region_finder.specs.Listings.{earlier}
use Rattle.region_tree.specs.Needs.{requirements_of}
use Rattle.region_tree.specs.Requirements.{Requirement}
use Rattle.region_tree.specs.declared.needs.Need.{Need}
use Rattle.region_tree.specs.declared.tree.RootId.{RootId}
use Rattle.task_code.specs.declared.job.Job.{Job}
use Rattle.board_rules.specs.Boards.{Items, Stage, op}
use Rattle.board_rules.specs.NumberedBoards.{Board}
use Rattle.board_rules.specs.Running.{Element}
use Rattle.regent_boards.specs.Frames as board
use Rattle.regent_boards.specs.RegentMachine.{regent_ground}
use Rattle.code_boards.specs.Views.{spaces_of}
use Rattle.board_terms.specs.States.{State, operation_at}
use Rattle.board_trees.specs.Names.{IsNaming, pointed, requirement_named}
use Rattle.board_trees.specs.Shows.{Shows, ShowsBoard, siblings}
use Rattle.board_trees.specs.Waits.{Sibling, WaitsFor}

-- Where needs of an operation, with roots by their names, are these, the listed operations of its context that interfere
-- with them are its children that do and haven't ended, but maybe for some that a later one of these waits for.
abbrev pub WaitsAreListed : Type 0
WaitsAreListed = (job : Job) (s : State) (b : Board (regent_ground (spaces_of job.code))) (h : ShowsBoard job s b) (way : List ℕ) (k : ℕ) (before : List Sibling) (above : List RootId)
    (D N : List Requirement) (i : ℕ) (f : board.Frame) (ps : List (Element (regent_ground (spaces_of job.code)))) (st : Stage (regent_ground (spaces_of job.code)))
    (is : Items (regent_ground (spaces_of job.code))) → Shows job s h.who b.ways way k before above (op D N i f ps st is) → All (λ (r : RootId). r.0 < length s.roots) above →
    (needs : List Need) (Q : List Requirement) →
    ((name : ℕ → ℕ) → IsNaming s.roots h.who (above ++ (operation_at s k).frame.own) name → pointed Q ≡ map (requirement_named name) (requirements_of s.tree needs)) →
    WaitsFor s.waits.knots Q (siblings job (operation_at s k).children is) (earlier s.tree s.waits.listing k needs)
