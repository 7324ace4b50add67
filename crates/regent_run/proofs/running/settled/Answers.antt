use Rattle.std.proofs.Common.{◌≡◌, true, subst, sym}
use Rattle.code_laws.specs.AcceptedPrograms.{IsEnded}
use Rattle.regent_tree.specs.declared.outcome.Outcome.{Outcome}
use Rattle.run_report.specs.Dumps.{fits_spaces}
use Rattle.regent_run.proofs.Meant.{plan_ends, plan_fits, same_outcome}
use Rattle.regent_run.proofs.running.settled.Goals as goal

pub dump_by-requires : goal.dump_by-requires
dump_by-requires c =
    rw (c.get.ensures)
    (subst (λ (o : Outcome). fits_spaces c.args.plan.now.job.code o ≡ true) (sym (same_outcome _ _ _ c.in-Some.ensures c.requires.outcome))
    (plan_fits c.args.plan.now c.requires.sound))

pub ended-requires : goal.ended-requires
ended-requires c =
    subst (λ (o : Outcome). IsEnded o.ending) (sym (same_outcome _ _ _ c.in-Some.ensures c.requires.outcome))
    (plan_ends c.args.plan.now c.requires.sound)
