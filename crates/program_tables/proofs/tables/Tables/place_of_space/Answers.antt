use Rattle.std.proofs.Common.{◌∙◌}
use Rattle.program_tables.proofs.ByKind.{place_or_count}
use Rattle.program_tables.proofs.tables.Tables.place_of_space.Goals as goal

pub returns : goal.returns
returns c = c.unwrap_or.ensures ∙ place_or_count _ _ c.args.name.now c.self.view_is _ c.place.result c.len.result c.self.invariant.spaces_ok c.place.ensures c.len.ensures
