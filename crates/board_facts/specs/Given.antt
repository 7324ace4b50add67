-- What a segment that is given back leaves, as far as texts, callers and roots go.
use Rattle.std.specs.Prelude.{◌≡◌, ◌≢◌, ◌+◌, ℕ, List, [], ◌∷◌, ◌++◌, All, length, map, set}
use Rattle.plain_values.specs.Points.{counted_from}
use Rattle.region_tree.specs.declared.tree.RootId.{RootId}
use Rattle.dependence_graph.specs.Knots.{number}
use Rattle.logical_map.specs.Maps.{LogicalMap}
use Rattle.task_code.specs.declared.code.Code.{Code}
use Rattle.machine_terms.specs.declared.frame.Frame.{Frame}
use Rattle.machine_terms.specs.declared.outcome.After.{After}
use Rattle.machine_terms.specs.declared.outcome.Made.TheVariants as made
use Rattle.machine_terms.specs.declared.outcome.Yield.{Yield}
use Rattle.machine_terms.specs.declared.outcome.Yield.TheVariants as yield
use Rattle.board_terms.specs.declared.operation.Activity.{Activity}
use Rattle.board_terms.specs.declared.operation.Activity.TheVariants as activity
use Rattle.board_terms.specs.declared.operation.Operation.{Operation}
use Rattle.board_terms.specs.Gives.{also_said, frame_left}
use Rattle.board_terms.specs.Makes.{next_root}
use Rattle.board_terms.specs.States.{State, called_by, operation_at}
use Rattle.board_facts.specs.Rooms.{IsShaped, shape_made, shape_of}

-- no seat has it
abbrev pub IsUnclaimed : Activity → Type 0
IsUnclaimed (activity.Filling claim fill) = ⊥
IsUnclaimed (activity.Out claim before) = ⊥
IsUnclaimed _ = Unit {0}

-- a root holds as many numbers as before, or nothing
abbrev pub IsHeldBehind : LogicalMap → LogicalMap → ℕ → Type 0
IsHeldBehind before after root = IsShaped (shape_of before root) after root

-- a root is made, and is the operation's own, or none is
abbrev pub IsMadeIn : Code → Yield → State → List RootId → State → List RootId → Type 0
IsMadeIn code (yield.Make (made.Root size space)) s left t own =
    (t.tree.roots ≡ s.tree.roots + 1)
    × ((t.roots ≡ s.roots ++ record { space = space; count = size } ∷ [])
    × ((own ≡ left ++ next_root s ∷ []) × IsShaped (shape_made code size space) t.map s.tree.roots))
IsMadeIn code _ s left t own =
    (t.tree.roots ≡ s.tree.roots) × ((t.roots ≡ s.roots) × ((own ≡ left) × IsHeldBehind s.map t.map s.tree.roots))

-- Of an operation, the one that stands behind it and the frames of the children that were called last: what it
-- printed is told behind what it said before, and other operations stay.
pub record IsGiven (code : Code) (s : State) (k : ℕ) (a : After) (t : State) : Type 0 where
  pub operation : Operation
  pub frames : List Frame
  pub operations : t.operations ≡ set s.operations k operation ++ map (called_by (number k)) frames
  pub children : operation.children ≡ (operation_at s k).children ++ map number (counted_from (length s.operations) (length frames))
  pub said : operation.said ≡ also_said (length (operation_at s k).children) a.text (operation_at s k).said
  pub unclaimed : IsUnclaimed operation.activity
  pub own : All (λ (f : Frame). f.own ≡ []) frames
  pub held : (root : ℕ) → root ≢ s.tree.roots → IsHeldBehind s.map t.map root
  pub made : IsMadeIn code a.ends s (frame_left (operation_at s k).frame a.frame).own t operation.frame.own
