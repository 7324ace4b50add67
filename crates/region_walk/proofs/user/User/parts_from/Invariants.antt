use Rattle.std.proofs.Common.{◌≤◌, ◌-◌}
use Rattle.region_walk.proofs.user.User.parts_from.Given as goal

abbrev pub invariant-loop-steps : goal.invariant-loop-steps
invariant-loop-steps l = l.steps ≤ l.shorter

abbrev pub decreases-loop-steps : goal.decreases-loop-steps
decreases-loop-steps l = l.shorter - l.steps
