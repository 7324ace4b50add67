use Rattle.regent_run.specs.Traces.{all_serve}
use Rattle.regent_run.proofs.Meant.{told_run}
use Rattle.regent_run.proofs.served.with_workers.Goals as goal

pub returns-in-Ok-run_by_workers-clause-told : goal.returns-in-Ok-run_by_workers-clause-told
returns-in-Ok-run_by_workers-clause-told g c =
    told_run all_serve _ _ _ _ c.in-Ok.plan c.in-Ok-run_by_workers.verdict c.in-Ok.ensures.said c.in-Ok-run_by_workers.ensures
