-- An operation's frame and parts, as the laws of boards see them.
use Rattle.std.specs.Prelude.{◌≡◌, ◌<◌, ℕ, true, List, All, length, map}
use Rattle.std.specs.List.Sorted.{IsStrictlyIncreasing}
use Rattle.lane_kernels.specs.Numbers.{FitsWidth, width_of}
use Rattle.region_tree.specs.Needs.{AreNeeds, requirements_of}
use Rattle.region_tree.specs.Pieces.{Held}
use Rattle.region_tree.specs.Requirements.{PartsAreApart, Requirement}
use Rattle.region_tree.specs.Trees.{RegionTree, node_at, root_at}
use Rattle.region_tree.specs.declared.content.Content.TheVariants as content
use Rattle.region_tree.specs.declared.needs.Need.{Need}
use Rattle.region_tree.specs.declared.piece.Part.{Part}
use Rattle.region_tree.specs.declared.tree.RootId.{RootId}
use Rattle.logical_map.specs.Maps.{LogicalMap, columns_of, is_live}
use Rattle.task_code.specs.declared.code.Code.{Code}
use Rattle.machine_terms.specs.declared.frame.Frame.{Frame}
use Rattle.machine_terms.specs.declared.value.RegionValue.{RegionValue}
use Rattle.machine_terms.specs.declared.value.Value.{Value}
use Rattle.machine_terms.specs.declared.value.Value.TheVariants as value
use Rattle.board_rules.specs.Running.{Element}
use Rattle.regent_boards.specs.Frames as board
use Rattle.regent_boards.specs.RegentMachine.{as_held, regent_ground}
use Rattle.code_boards.specs.Views.{frame_in, mode_in, parts_in, spaces_of}
use Rattle.segment_renaming.specs.Renaming.{frame_to, part_to}
use Rattle.board_terms.specs.declared.operation.Operation.{Operation}
use Rattle.board_terms.specs.declared.extent.Extent.{Extent}
use Rattle.board_trees.specs.Names.{IsNaming, named, pointed, requirement_named}

-- ---- regions are those of the tree

pub record IsPlaced (t : RegionTree) (r : RegionValue) : Type 0 where
  pub there : r.node.0 < length t.nodes
  pub points : (node_at t r.node.0).content ≡ content.Region r.points
  pub root : root_at t r.node.0 ≡ r.root.0

abbrev pub HasPlaces : RegionTree → Value → Type 0
HasPlaces t (value.Region r) = IsPlaced t r
HasPlaces t (value.Partition p) = All (IsPlaced t) p.children
HasPlaces t _ = Unit {0}

pub record FrameHasPlaces (t : RegionTree) (f : Frame) : Type 0 where
  pub slots : All (HasPlaces t) f.slots
  pub stack : All (HasPlaces t) f.stack
  pub needs : AreNeeds t f.needs.items

-- ---- parts

-- each number of a part is one of its kind
abbrev pub HasFitting : Part → Type 0
HasFitting q = All (λ (h : Held). All (FitsWidth (width_of q.kind)) h.values) q.pieces

-- a part has no element twice
pub record HasEachOnce (q : Part) : Type 0 where
  pub apart : PartsAreApart (map (λ (h : Held). (h.points, h.mode)) q.pieces)
  pub rising : All (λ (h : Held). IsStrictlyIncreasing h.points) q.pieces

module _ (code : Code) where
  -- elements are held at the widths of their fields
  abbrev pub IsHeld : Element (regent_ground (spaces_of code)) → Type 0
  IsHeld x = x.mode ≡ as_held (spaces_of code) x.location.root x.location.field (mode_in code x.mode)

  -- The operation's frame and parts are these, with roots by their names; whatever names the roots have that it and its
  -- callers didn't make, so it speaks of none of them. These roots are there, and so are the fields that it needs.
  pub record IsSeen (t : RegionTree) (live : LogicalMap) (extents : List Extent) (who : ℕ → ℕ) (roots : List RootId) (o : Operation) (N : List Requirement) (f : board.Frame)
      (ps : List (Element (regent_ground (spaces_of code)))) : Type 0 where
    pub frame : (name : ℕ → ℕ) → IsNaming extents who roots name → frame_in f ≡ frame_to (named name) o.frame
    pub needs : f.needs ≡ N
    pub required : (name : ℕ → ℕ) → IsNaming extents who roots name → pointed N ≡ map (requirement_named name) (requirements_of t o.frame.needs.items)
    pub parts : (name : ℕ → ℕ) → IsNaming extents who roots name → parts_in code ps ≡ map (part_to (named name)) o.parts
    pub held : All IsHeld ps
    pub fitting : All HasFitting o.parts
    pub once : All HasEachOnce o.parts
    pub placed : FrameHasPlaces t o.frame
    pub there : All (λ (r : RootId). is_live live r.0 ≡ true) roots
    pub fields : All (λ (n : Need). n.field < length (columns_of live n.root.0)) o.frame.needs.items
