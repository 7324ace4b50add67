use Rattle.std.proofs.Common.{◌≡◌, ◌++◌, drop, map, get_or, pos}
use Rattle.plain_store.proofs.copies.numbers_at.Given as goal

abbrev pub invariant-loop-place : goal.invariant-loop-place
invariant-loop-place l =
    l.numbers.items ++ map (λ p. get_or l.column p (pos 0)) (drop l.place l.points)
    ≡ map (λ p. get_or l.column p (pos 0)) l.points
