use Rattle.program_tables.proofs.ByKind.{space_found, space_place, space_within}
use Rattle.program_tables.proofs.tables.Tables.space.Goals as goal

pub returns-clause-found : goal.returns-clause-found
returns-clause-found c = space_found _ _ c.args.name.now c.self.view_is _ c.place.result c.self.invariant.spaces_ok c.place.ensures

pub returns-clause-place : goal.returns-clause-place
returns-clause-place c = space_place _ _ c.args.name.now c.self.view_is _ c.place.result c.self.invariant.spaces_ok c.place.ensures

pub returns-clause-within : goal.returns-clause-within
returns-clause-within c = space_within _ _ c.args.name.now c.self.view_is _ c.place.result c.self.invariant.spaces_ok c.place.ensures
