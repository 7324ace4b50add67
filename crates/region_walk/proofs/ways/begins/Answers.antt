use Rattle.std.proofs.Common.{sym}
use Rattle.region_walk.proofs.Heads.{begins_short}
use Rattle.region_walk.proofs.ways.begins.Goals as goal

pub returns-then-other-way : goal.returns-then-other-way
returns-then-other-way c = sym (begins_short c.args.way.now c.args.other.now c.if-other-way.true)
