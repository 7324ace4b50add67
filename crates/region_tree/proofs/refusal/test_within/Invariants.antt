use Rattle.std.proofs.Common.{◌≡◌, ℕ, ◌<◌, true}
use Rattle.plain_values.specs.Points.{within}
use Rattle.region_tree.specs.Sharing.{set_of_colour}
use Rattle.region_tree.proofs.refusal.test_within.Given as goal

abbrev pub invariant-loop-colour : goal.invariant-loop-colour
invariant-loop-colour l =
    (c : ℕ) → c < l.colour → within (set_of_colour l.sets c) l.region ≡ true
