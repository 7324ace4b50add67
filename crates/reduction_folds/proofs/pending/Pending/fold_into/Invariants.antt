use Rattle.std.proofs.Common.{◌≡◌, ◌++◌, drop, length, take}
use Rattle.reduction_folds.specs.Folds.{all_beside}
use Rattle.reduction_folds.proofs.pending.Pending.fold_into.Given as goal

abbrev pub invariant-loop-place : goal.invariant-loop-place
invariant-loop-place l = record {
  count : length l.values ≡ length l.points;
  done : take l.place l.values ++ all_beside l.width l.self.folds (drop l.place l.points) (drop l.place l.values)
      ≡ all_beside l.width l.self.folds l.points l.initial.values;
}
