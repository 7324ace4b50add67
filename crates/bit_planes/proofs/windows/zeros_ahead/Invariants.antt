use Rattle.std.proofs.Common.{get_or, length, ℕ, ◌-◌, ◌<◌, ◌≤◌, ◌≡◌}
use Rattle.bit_planes.proofs.windows.zeros_ahead.Given as goal

abbrev pub invariant-loop-count : goal.invariant-loop-count
invariant-loop-count l = record {
  within : l.count ≤ length l.words;
  zeros : (k : ℕ) → k < l.count → get_or l.words k 0 ≡ 0;
}

abbrev pub decreases-loop-count : goal.decreases-loop-count
decreases-loop-count l = length l.words - l.count
