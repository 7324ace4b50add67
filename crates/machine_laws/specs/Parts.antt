-- What a segment leaves of the parts that are held.
use Rattle.std.specs.List.{AllZip}
use Rattle.std.specs.Prelude.{◌≡◌, length}
use Rattle.region_tree.specs.Pieces.{Held}
use Rattle.region_tree.specs.declared.piece.Part.{Part}
use Rattle.machine_terms.specs.declared.frame.Before.{Before}
use Rattle.machine_terms.specs.Segments.{segment}

-- a piece of the same points in the same mode, with as many numbers
pub record PieceIsKept (old new : Held) : Type 0 where
  pub points : new.points ≡ old.points
  pub mode : new.mode ≡ old.mode
  pub values : length new.values ≡ length old.values

-- a part for the same field of the same root
pub record PartIsKept (old new : Part) : Type 0 where
  pub root : new.root ≡ old.root
  pub field : new.field ≡ old.field
  pub kind : new.kind ≡ old.kind
  pub pieces : AllZip PieceIsKept old.pieces new.pieces

-- A segment gives back the parts that it was given, in their order, but for their numbers.
abbrev pub SegmentsKeepParts : Type 0
SegmentsKeepParts = (b : Before) → AllZip PartIsKept b.parts (segment b).parts
