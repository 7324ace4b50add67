use Rattle.std.proofs.Common.{◌≡◌, ◌-◌, ◌≤◌, length}
use Rattle.lane_kernels.specs.Fronts.{beside, paired_to, updated_where}
use Rattle.lane_kernels.proofs.masked.update_masked.Given as goal

abbrev pub invariant-loop-into : goal.invariant-loop-into
invariant-loop-into l = record {
  inside : l.at ≤ length l.fn.into;
  front : l.into ≡ paired_to (updated_where l.fn.update) l.at l.fn.into (beside l.fn.mask l.fn.from);
}

abbrev pub decreases-loop-into : goal.decreases-loop-into
decreases-loop-into l = length l.fn.into - l.at
