use Rattle.program_tables.proofs.ByKind.{task_found, task_is, task_missing}
use Rattle.program_tables.proofs.tables.Tables.task.Goals as goal

pub returns-clause-found : goal.returns-clause-found
returns-clause-found c = task_found _ _ c.args.name.now c.self.view_is _ c.first.result c.self.invariant.tasks_ok c.first.ensures

pub returns-clause-task : goal.returns-clause-task
returns-clause-task c = task_is _ _ c.args.name.now c.self.view_is _ c.first.result c.self.invariant.tasks_ok c.first.ensures

pub returns-clause-missing : goal.returns-clause-missing
returns-clause-missing c = task_missing _ _ c.args.name.now c.self.view_is _ c.first.result c.self.invariant.tasks_ok c.first.ensures
