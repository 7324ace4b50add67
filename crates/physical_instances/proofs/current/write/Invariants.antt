use Rattle.std.proofs.Common.{◌≡◌, drop, length}
use Rattle.physical_instances.specs.Instances.{written}
use Rattle.physical_instances.proofs.current.write.Given as goal

abbrev pub invariant-loop-place : goal.invariant-loop-place
invariant-loop-place l = record {
  count : length l.base ≡ length l.root;
  done : written (record { points = drop l.place l.piece.points; mode = l.piece.mode; values = drop l.place l.piece.values }) l.root l.base
      ≡ written l.piece l.root l.initial.base;
}
