use Rattle.regent_run.proofs.Judging.{tells_token}
use Rattle.regent_run.proofs.judge.token_fault.Goals as goal

pub returns-in-None : goal.returns-in-None
returns-in-None c = tells_token c.args.kind c.args.line c.no_program.result c.in-None.ensures c.no_program.ensures
