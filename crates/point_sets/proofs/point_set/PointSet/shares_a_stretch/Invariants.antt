use Rattle.std.proofs.Common.{ℕ, ◌≡◌, ◌<◌, ◌-◌, ◌&&◌, false}
use Rattle.plain_values.specs.Points.{has}
use Rattle.point_sets.specs.declared.TheConstants.{POINT_LIMIT}
use Rattle.point_sets.proofs.point_set.PointSet.shares_a_stretch.Given as goal

abbrev pub invariant-loop-ours : goal.invariant-loop-ours
invariant-loop-ours l = (z : ℕ) → z < l.point → (has l.self z && has l.o z) ≡ false

abbrev pub decreases-loop-ours : goal.decreases-loop-ours
decreases-loop-ours l = POINT_LIMIT - l.point
