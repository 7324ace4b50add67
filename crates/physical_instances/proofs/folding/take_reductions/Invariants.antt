use Rattle.std.proofs.Common.{◌-◌, length}
use Rattle.physical_instances.proofs.Taking.{Taken}
use Rattle.physical_instances.proofs.folding.take_reductions.Given as goal

abbrev pub invariant-loop-place : goal.invariant-loop-place
invariant-loop-place l =
    Taken l.initial.pieces.items l.pieces.items l.initial.pending.folds l.pending.folds l.initial.pending.spare l.pending.spare l.place

abbrev pub decreases-loop-place : goal.decreases-loop-place
decreases-loop-place l = length l.pieces.items - l.place
