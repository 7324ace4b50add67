use Rattle.order_laws.proofs.Whole.{called_run_whole, instances_run_whole, jobs_run_whole}
use Rattle.order_laws.proofs.runs_are_whole.Goals as goal

pub returns-clause-jobs : goal.returns-clause-jobs
returns-clause-jobs c = jobs_run_whole

pub returns-clause-instances : goal.returns-clause-instances
returns-clause-instances c = instances_run_whole

pub returns-clause-called : goal.returns-clause-called
returns-clause-called c = called_run_whole
