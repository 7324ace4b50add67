use Rattle.compile_statements.proofs.Calls.{longer_is_none}
use Rattle.compile_statements.proofs.launches.one_call.Goals as goal

pub returns-in-len2-up-clause-none : goal.returns-in-len2-up-clause-none
returns-in-len2-up-clause-none c = longer_is_none c.args.stmts.now c.in-len2-up.len_at_least
