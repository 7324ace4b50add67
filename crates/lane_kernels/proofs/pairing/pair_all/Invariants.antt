use Rattle.std.proofs.Common.{◌≡◌, ◌-◌, ◌≤◌, length}
use Rattle.lane_kernels.specs.Fronts.{paired_to}
use Rattle.lane_kernels.proofs.pairing.pair_all.Given as goal

abbrev pub invariant-loop-into : goal.invariant-loop-into
invariant-loop-into g l = record {
  inside : l.at ≤ length l.fn.into;
  front : l.into ≡ paired_to (g.P.Pairing.paired l.fn.pairing) l.at l.fn.into l.fn.from;
}

abbrev pub decreases-loop-into : goal.decreases-loop-into
decreases-loop-into g l = length l.fn.into - l.at
