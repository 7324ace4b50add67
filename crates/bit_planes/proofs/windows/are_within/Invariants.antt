use Rattle.std.proofs.Common.{get_or, ℕ, false, not, ◌&&◌, ◌+◌, ◌<◌, ◌≡◌}
use Rattle.bit_planes.specs.Planes.{has_point}
use Rattle.bit_planes.specs.Words.{word_at}
use Rattle.bit_planes.proofs.windows.are_within.Given as goal

abbrev pub invariant-loop-number : goal.invariant-loop-number
invariant-loop-number l =
    (k i : ℕ) → k < l.number → i < 64 → (has_point (get_or l.left k 0) i && not (has_point (word_at l.right_first l.right (l.left_first + k)) i)) ≡ false
