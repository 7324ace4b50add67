use Rattle.std.proofs.Common.{◌≡◌, ℕ, ◌<◌, ◌≤◌, false}
use Rattle.plain_values.specs.Points.{has}
use Rattle.region_tree.specs.Sharing.{set_of_colour}
use Rattle.region_tree.proofs.refusal.first_with.Given as goal

abbrev pub invariant-loop-colour : goal.invariant-loop-colour
invariant-loop-colour l =
    (c : ℕ) → l.from ≤ c → c < l.colour → has (set_of_colour l.sets c) l.point ≡ false
