use Rattle.std.proofs.Common.{get_or, length, ℕ, ◌*◌, ◌+◌, ◌<◌, ◌≡◌}
use Rattle.bit_planes.specs.Planes.{count_below, has_point}
use Rattle.bit_planes.specs.Words.{number_of}
use Rattle.bit_planes.proofs.places.totals_of.Given as goal

abbrev pub invariant-loop-word : goal.invariant-loop-word
invariant-loop-word l = record {
  total : l.total ≡ count_below (has_point (number_of l.words)) (64 * l.word-index);
  size : length l.totals.items ≡ l.word-index;
  each : (k : ℕ) → k < l.word-index → get_or l.totals.items k 0 ≡ count_below (has_point (number_of l.words)) (64 * (k + 1));
}
