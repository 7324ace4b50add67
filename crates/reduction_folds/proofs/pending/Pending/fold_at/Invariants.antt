use Rattle.std.proofs.Common.{◌≡◌, drop}
use Rattle.reduction_folds.specs.Folds.{all_at}
use Rattle.reduction_folds.proofs.pending.Pending.fold_at.Given as goal

abbrev pub invariant-loop-fold : goal.invariant-loop-fold
invariant-loop-fold l =
    all_at l.width (drop l.fold-index l.self.folds) l.point l.number ≡ all_at l.width l.self.folds l.point l.value
