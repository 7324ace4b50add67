use Rattle.std.proofs.Common.{◌≡◌, length}
use Rattle.std.proofs.Math.Seq.{paste}
use Rattle.logical_map.specs.Maps.{columns_of}
use Rattle.physical_instances.specs.Kept.{map_of}
use Rattle.board_outcomes.specs.Images.{numbers_in}
use Rattle.board_outcomes.proofs.imaging.fill_image.Given as goal

abbrev pub invariant-loop-place : goal.invariant-loop-place
invariant-loop-place l =
    (l.filled.items ≡ paste l.fn.fields 0 (numbers_in (columns_of (map_of l.contents) l.root.0)) l.place)
    × (length l.filled.items ≡ length l.fn.fields)
