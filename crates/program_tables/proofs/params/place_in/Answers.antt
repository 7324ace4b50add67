use Rattle.std.proofs.Common.{ap, ◌∙◌, is_some}
use Rattle.regent_tree.specs.declared.types.Param.{Param}
use Rattle.program_tables.specs.Lookups.{is_named}
use Rattle.program_tables.proofs.ByKind.{is_some-position, none_is_end}
use Rattle.program_tables.proofs.params.place_in.Goals as goal

pub returns-clause-found : goal.returns-clause-found
returns-clause-found c = ap is_some c.first_place.ensures ∙ is_some-position (is_named (λ (p : Param). p.name) c.args.name.now) c.args.params.now

pub returns-clause-missing : goal.returns-clause-missing
returns-clause-missing c = none_is_end (is_named (λ (p : Param). p.name) c.args.name.now) c.args.params.now c.first_place.result c.first_place.ensures
