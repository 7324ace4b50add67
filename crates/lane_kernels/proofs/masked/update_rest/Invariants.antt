use Rattle.std.proofs.Common.{◌≡◌, List, ℤ, length}
use Rattle.lane_kernels.specs.Fronts.{beside, paired_to, updated_where}
use Rattle.lane_kernels.proofs.masked.update_rest.Given as goal

abbrev pub invariant-loop-place : goal.invariant-loop-place
invariant-loop-place l = record {
  same : length l.into ≡ length l.fn.into;
  front : (items : List ℤ) → l.fn.into ≡ paired_to (updated_where l.fn.update) l.fn.at items (beside l.fn.mask l.fn.from) → l.into ≡ paired_to (updated_where l.fn.update) l.place items (beside l.fn.mask l.fn.from);
}
