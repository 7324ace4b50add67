use Rattle.std.proofs.Common.{ℕ, ◌<◌, All}
use Rattle.region_tree.specs.Sharing.{AreFound, IsSpan}
use Rattle.region_tree.proofs.sweep.all_spans.Given as goal

abbrev pub invariant-loop-colour : goal.invariant-loop-colour
invariant-loop-colour l =
    All (IsSpan l.sets) l.spans.items
    × ((colour : ℕ) → colour < l.colour → AreFound l.sets l.spans.items colour)
