-- What a segment leaves of an operation that is out, on the table and in the tree.
use Rattle.std.specs.Prelude.{◌≡◌, ◌<◌, ◌++◌, ℕ, All, List, Some, length, map}
use Rattle.region_tree.specs.Requirements.{Requirement}
use Rattle.region_tree.specs.declared.tree.RootId.{RootId}
use Rattle.task_code.specs.declared.job.Job.{Job}
use Rattle.machine_terms.specs.declared.frame.Before.{Before}
use Rattle.machine_terms.specs.declared.frame.Frame.{Frame}
use Rattle.machine_terms.specs.declared.outcome.After.{After}
use Rattle.machine_terms.specs.Segments.{segment}
use Rattle.board_rules.specs.Boards.{Items, Wait, awaited, met_by, op, out}
use Rattle.board_rules.specs.NumberedBoards.{Board}
use Rattle.board_rules.specs.Running.{After as BoardAfter, Element}
use Rattle.regent_boards.specs.Frames as board
use Rattle.regent_boards.specs.RegentMachine.{regent_ground}
use Rattle.segment_renaming.specs.Renaming.{frame_to, part_to, yield_to}
use Rattle.code_boards.specs.Laws.{machine_of}
use Rattle.code_boards.specs.Views.{frame_in, parts_in, spaces_of, yield_out}
use Rattle.board_terms.specs.declared.claim.Claim.{Claim}
use Rattle.board_terms.specs.declared.operation.Activity.TheVariants as activity
use Rattle.board_terms.specs.declared.operation.Operation.{Operation}
use Rattle.board_terms.specs.States.{State, operation_at}
use Rattle.board_trees.specs.Frames.{HasEachOnce, HasFitting, IsHeld}
use Rattle.board_trees.specs.Names.{IsNaming, named}
use Rattle.board_trees.specs.Shows.{Shows, ShowsBoard}
use Rattle.board_trees.specs.Waits.{Sibling}

module _ (job : Job) (s : State) (who : ℕ → ℕ) (roots : List RootId) where
  -- The same is printed and given back, and the segments end alike, with roots by their names. What the operation needs
  -- and its own roots stay, where it goes on; and so does how its parts are held.
  pub record AreLeft (o : Operation) (N : List Requirement) (from : board.Frame) (a : After) (b : BoardAfter (regent_ground (spaces_of job.code))) : Type 0 where
    pub text : b.text ≡ a.text
    pub own : (name : ℕ → ℕ) → IsNaming s.roots who roots name → b.frame.own ≡ map (λ (r : RootId). name r.0) o.frame.own
    pub needs : b.frame.needs ≡ N
    pub frame : (f : Frame) → a.frame ≡ Some f → (name : ℕ → ℕ) → IsNaming s.roots who roots name → frame_in b.frame ≡ frame_to (named name) f
    pub kept : (f : Frame) → a.frame ≡ Some f → (f.needs ≡ o.frame.needs) × (f.own ≡ o.frame.own)
    pub parts : (name : ℕ → ℕ) → IsNaming s.roots who roots name → parts_in job.code b.parts ≡ map (part_to (named name)) a.parts
    pub held : All (IsHeld job.code) b.parts
    pub fitting : All HasFitting a.parts
    pub once : All HasEachOnce a.parts
    pub yields : (name : ℕ → ℕ) → IsNaming s.roots who roots name → b.yields ≡ yield_out job.code job.turns from (yield_to (named name) a.ends)
    pub alike : (name other : ℕ → ℕ) → IsNaming s.roots who roots name → IsNaming s.roots who roots other → yield_to (named name) a.ends ≡ yield_to (named other) a.ends

-- The segment of one that is out is run, on the table from what was handed out, in the tree from its frame with what it
-- waited for, its parts and what was filled: they leave the same.
abbrev pub SegmentsShow : Type 0
SegmentsShow = (job : Job) (s : State) (b : Board (regent_ground (spaces_of job.code))) (h : ShowsBoard job s b) (way : List ℕ) (k : ℕ) (earlier : List Sibling) (above : List RootId) (D N : List Requirement) (i : ℕ) (f : board.Frame)
    (ps d : List (Element (regent_ground (spaces_of job.code)))) (w : Wait (regent_ground (spaces_of job.code))) (is : Items (regent_ground (spaces_of job.code))) →
    Shows job s h.who b.ways way k earlier above (op D N i f ps (out w d) is) → All (λ (r : RootId). r.0 < length s.roots) above →
    (claim : Claim) (before : Before) → (operation_at s k).activity ≡ activity.Out claim before → (makings : ℕ) →
    let G = regent_ground (spaces_of job.code) in
    let M = machine_of job makings in
    let met = met_by G M w f (awaited G M w is) in
    AreLeft job s h.who (above ++ (operation_at s k).frame.own) (operation_at s k) N met (segment before) (M.segment met (ps ++ d))
