use Rattle.std.proofs.Common.{get_or, length, ℕ, ◌≤◌, ◌≡◌}
use Rattle.bit_planes.proofs.windows.end_of_ones.Given as goal

abbrev pub invariant-loop-end : goal.invariant-loop-end
invariant-loop-end l = record {
  ahead : l.least ≤ l.end;
  within : l.end ≤ length l.words;
  zeros : (k : ℕ) → l.end ≤ k → get_or l.words k 0 ≡ 0;
}

abbrev pub decreases-loop-end : goal.decreases-loop-end
decreases-loop-end l = l.end
