use Rattle.std.proofs.Common.{get_or, length, ℕ, ◌+◌, ◌<◌, ◌≡◌}
use Rattle.bit_planes.specs.Words.{word_at}
use Rattle.bit_planes.proofs.windows.window.Given as goal

abbrev pub invariant-loop-number : goal.invariant-loop-number
invariant-loop-number l = record {
  size : length l.out.items ≡ l.number;
  same : (k : ℕ) → k < l.number → get_or l.out.items k 0 ≡ word_at l.first l.words (l.from + k);
}
