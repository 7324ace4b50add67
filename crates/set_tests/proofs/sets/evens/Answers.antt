use Rattle.std.proofs.Common.{◌≡◌, ℕ, ◌+◌, ◌*◌, ◌<◌, ◌≤◌, List, length, get_or, arith}
use Rattle.std.proofs.lemmas.List.{get_or_default}
use Rattle.plain_values.specs.Points.{IsPoints}
use Rattle.point_sets.specs.declared.TheConstants.{POINT_LIMIT}
use Rattle.set_tests.proofs.sets.evens.Goals as goal

every_second : (xs : List ℕ) (n : ℕ) → n ≤ 2097152 → length xs ≡ n → ((k : ℕ) → k < n → get_or xs k 0 ≡ 2 * k) → IsPoints POINT_LIMIT xs
every_second xs n most size at = record {
  rising = λ k l. omega (arith, at k (omega arith), at (k + 1) (omega arith));
  below = λ k d l. rw (get_or_default xs k d 0 l) (omega (arith, at k (omega arith)));
}

pub returns : goal.returns
returns c =
    every_second c.loop-half.points.items c.loop-half.half (omega arith) c.loop-half.invariant.0 c.loop-half.invariant.1
