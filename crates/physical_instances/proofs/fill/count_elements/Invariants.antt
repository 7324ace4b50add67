use Rattle.std.proofs.Common.{◌≡◌, take}
use Rattle.logical_map.specs.Fills.{elements_of}
use Rattle.physical_instances.proofs.fill.count_elements.Given as goal

abbrev pub invariant-loop-piece : goal.invariant-loop-piece
invariant-loop-piece l = l.count ≡ elements_of (take l.piece-index l.pieces)
