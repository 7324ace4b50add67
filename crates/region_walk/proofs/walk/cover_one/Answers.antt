use Rattle.std.proofs.Common.{◌∙◌, sym}
use Rattle.region_walk.specs.Keeping.{live}
use Rattle.region_walk.proofs.Covering.{read_leaves}
use Rattle.region_walk.proofs.walk.cover_one.Goals as goal

pub returns-else-is_write-clause-live : goal.returns-else-is_write-clause-live
returns-else-is_write-clause-live g c =
    sym (read_leaves c.args.context.0 c.args.op.0 c.args.need.now (live c.args.entries.now) (sym c.is_write.ensures ∙ c.if-is_write.false))
