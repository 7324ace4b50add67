use Rattle.std.proofs.Common.{sym}
use Rattle.region_walk.proofs.Leaving.{leaves_short, leaves_too_short}
use Rattle.region_walk.proofs.ways.leaves.Goals as goal

pub returns-then-way-steps : goal.returns-then-way-steps
returns-then-way-steps c = sym (leaves_short c.args.steps c.args.side c.args.way.now c.args.other.now c.if-way-steps.true)

pub returns-then-other-steps : goal.returns-then-other-steps
returns-then-other-steps c = sym (leaves_too_short c.args.steps c.args.side c.args.way.now c.args.other.now c.if-other-steps.true)
