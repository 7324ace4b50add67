use Rattle.std.proofs.Common.{◌≡◌, ℕ, ◌*◌, ◌<◌, length, get_or}
use Rattle.set_tests.proofs.sets.evens.Given as goal

abbrev pub invariant-loop-half : goal.invariant-loop-half
invariant-loop-half l =
    (length l.points.items ≡ l.half) × ((k : ℕ) → k < l.half → get_or l.points.items k 0 ≡ 2 * k)
