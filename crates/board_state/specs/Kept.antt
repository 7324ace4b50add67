-- What the state of a board keeps.
use Rattle.std.specs.Prelude.{◌≡◌, ℕ, List, All, Bool, true, false, Option, Some, length}
use Rattle.region_finder.specs.Listings.{IsListingOf}
use Rattle.region_tree.specs.Needs.{AreNeeds}
use Rattle.region_tree.specs.Trees.{RegionTree}
use Rattle.region_tree.specs.declared.needs.Needs.{Needs}
use Rattle.logical_map.specs.Maps.{LogicalMap}
use Rattle.dependence_graph.specs.Graphs.{Waits}
use Rattle.dependence_graph.specs.Knots.{knot_at}
use Rattle.dependence_graph.specs.declared.stage.Stage.{Stage}
use Rattle.dependence_graph.specs.declared.stage.Stage.TheVariants.{Begun, Stopped}
use Rattle.board_gives.specs.Gives.{IsIssuedBy}
use Rattle.board_gives.specs.Makes.{IsRootBelow}
use Rattle.board_terms.specs.declared.extent.Extent.{Extent}
use Rattle.board_terms.specs.declared.operation.Activity.{Activity}
use Rattle.board_terms.specs.declared.operation.Activity.TheVariants.{Filling, Out}
use Rattle.board_terms.specs.declared.operation.Operation.{Operation}
use Rattle.board_terms.specs.States.{State, operation_at}

-- a state by its parts
abbrev pub state_of : RegionTree → List Extent → LogicalMap → List Operation → Waits → ℕ → State
state_of tree roots map operations waits turns = record {
  tree = tree;
  roots = roots;
  map = map;
  operations = operations;
  waits = waits;
  turns = turns;
}

-- the graph says that it is stopped
abbrev pub is_stopped_at : Option Stage → Bool
is_stopped_at (Some Stopped) = true
is_stopped_at _ = false

-- a seat has it: it is being filled, or out
abbrev pub is_claimed : Activity → Bool
is_claimed (Filling claim fill) = true
is_claimed (Out claim before) = true
is_claimed _ = false

abbrev pub HasNeeds : RegionTree → Operation → Type 0
HasNeeds t o = AreNeeds t o.frame.needs.items

-- what is out was lent with these needs
abbrev pub IsLentWith : Needs → Activity → Type 0
IsLentWith needs (Out claim before) = before.frame.needs ≡ needs
IsLentWith needs _ = Unit {0}

abbrev pub IsLent : Operation → Type 0
IsLent o = IsLentWith o.frame.needs o.activity

-- What waits for what is told of the operations, by needs of the tree's regions; an operation that a seat has has
-- begun, and is out with its own needs; its children are its own; and the next root has a number that no live root has.
pub record IsKept (s : State) : Type 0 where
  pub counted : length s.operations ≡ length s.waits.knots
  pub listing : IsListingOf s.tree s.waits.listing
  pub needs : All (HasNeeds s.tree) s.operations
  pub begun : (k : ℕ) → is_claimed (operation_at s k).activity ≡ true → (knot_at s.waits.knots k).stage ≡ Begun
  pub lent : All IsLent s.operations
  pub own : (k : ℕ) → All (IsIssuedBy s.waits.knots k) (operation_at s k).children
  pub live : All (IsRootBelow s.tree.roots) s.map
