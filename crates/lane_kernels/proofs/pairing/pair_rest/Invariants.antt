use Rattle.std.proofs.Common.{◌≡◌, List, length}
use Rattle.lane_kernels.specs.Fronts.{paired_to}
use Rattle.lane_kernels.proofs.pairing.pair_rest.Given as goal

abbrev pub invariant-loop-place : goal.invariant-loop-place
invariant-loop-place g l = record {
  same : length l.into ≡ length l.fn.into;
  front : (items : List g.row.T.Denot) → l.fn.into ≡ paired_to (g.P.Pairing.paired l.fn.pairing) l.fn.at items l.fn.from → l.into ≡ paired_to (g.P.Pairing.paired l.fn.pairing) l.place items l.fn.from;
}
