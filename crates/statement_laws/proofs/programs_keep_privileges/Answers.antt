use Rattle.statement_laws.proofs.Watching.{programs_keep_privileges}
use Rattle.statement_laws.proofs.programs_keep_privileges.Goals as goal

pub returns : goal.returns
returns c = programs_keep_privileges
