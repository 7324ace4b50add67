use Rattle.std.proofs.Common.{leb, length, ltb, ℕ, ◌&&◌, ◌-◌, ◌||◌, ◌≤◌, ◌≡◌}
use Rattle.bit_planes.specs.Planes.{has_point}
use Rattle.bit_planes.specs.Words.{number_of}
use Rattle.bit_planes.proofs.Bits.{AreWords}
use Rattle.bit_planes.proofs.windows.set_ones.Given as goal

abbrev pub invariant-loop-place : goal.invariant-loop-place
invariant-loop-place l = record {
  ahead : l.from ≤ l.place;
  within : l.place ≤ l.end;
  fit : AreWords l.words;
  size : length l.words ≡ length l.fn.words;
  set : (z : ℕ) → has_point (number_of l.words) z ≡ (has_point (number_of l.fn.words) z || (leb l.from z && ltb z l.place));
}

abbrev pub decreases-loop-place : goal.decreases-loop-place
decreases-loop-place l = l.end - l.place
