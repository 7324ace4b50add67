use Rattle.regent_run.specs.Traces.{none_serve}
use Rattle.regent_run.proofs.Meant.{told_run}
use Rattle.regent_run.proofs.served.alone.Goals as goal

pub returns-in-Ok-run_alone-clause-told : goal.returns-in-Ok-run_alone-clause-told
returns-in-Ok-run_alone-clause-told g c =
    told_run none_serve _ _ _ _ c.in-Ok.plan c.in-Ok-run_alone.verdict c.in-Ok.ensures.said c.in-Ok-run_alone.ensures
