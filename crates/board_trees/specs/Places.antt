-- What a segment leaves of a frame whose regions are those of the tree.
use Rattle.std.specs.Prelude.{◌≡◌, Some, true}
use Rattle.region_tree.specs.Trees.{RegionTree, set_at}
use Rattle.machine_terms.specs.declared.frame.Before.{Before}
use Rattle.machine_terms.specs.declared.frame.Frame.{Frame}
use Rattle.machine_terms.specs.declared.outcome.After.{After}
use Rattle.machine_terms.specs.declared.value.RegionValue.{RegionValue}
use Rattle.machine_terms.specs.Segments.{segment}
use Rattle.segment_regions.specs.Values.{YieldHas}
use Rattle.board_terms.specs.Makes.{is_here}
use Rattle.board_trees.specs.Frames.{FrameHasPlaces, HasPlaces, IsPlaced}

-- so are those of the frame that it leaves, of what it hands to calls, and the one that it divides
pub record LeavesPlaces (t : RegionTree) (a : After) : Type 0 where
  pub frame : (f : Frame) → a.frame ≡ Some f → FrameHasPlaces t f
  pub yields : YieldHas (HasPlaces t) a.ends

abbrev pub PlacesStay : Type 0
PlacesStay = (t : RegionTree) (b : Before) → FrameHasPlaces t b.frame → LeavesPlaces t (segment b)

-- such a region passes the table's test, and has the tree's points
abbrev pub PlacedIsHere : Type 0
PlacedIsHere = (t : RegionTree) (r : RegionValue) → IsPlaced t r → (is_here t r ≡ true) × (set_at t r.node.0 ≡ r.points)
