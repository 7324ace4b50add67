use Rattle.std.proofs.Common.{◌∙◌}
use Rattle.program_tables.proofs.ByKind.{alias_found}
use Rattle.program_tables.proofs.tables.Tables.has_alias.Goals as goal

pub returns : goal.returns
returns c = c.is_some.ensures ∙ alias_found _ _ c.args.name.now c.self.view_is _ _ c.self.invariant.aliases_ok c.place.ensures
