use Rattle.std.proofs.Common.{◌≡◌, ℕ, ◌-◌, ◌<◌, ◌≤◌, true}
use Rattle.plain_values.specs.Points.{has}
use Rattle.point_sets.specs.declared.TheConstants.{POINT_LIMIT}
use Rattle.region_tree.proofs.refusal.first_outside.Given as goal

abbrev pub invariant-loop-stretch : goal.invariant-loop-stretch
invariant-loop-stretch l =
    (l.from ≤ POINT_LIMIT) × ((z : ℕ) → z < l.from → has l.set z ≡ true → has l.region z ≡ true)

abbrev pub decreases-loop-stretch : goal.decreases-loop-stretch
decreases-loop-stretch l = POINT_LIMIT - l.from
