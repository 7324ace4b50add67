use Rattle.std.proofs.Common.{refl}
use Rattle.parallel_run.specs.declared.ran.Ran.TheVariants.{InOrder}
use Rattle.regent_run.specs.Traces.{none_serve}
use Rattle.regent_run.proofs.Meant.{ok_on, plan_told}
use Rattle.regent_run.proofs.running.run_alone.Goals as goal

pub returns : goal.returns
returns c =
    ok_on c.settled.result
    (λ v h. plan_told none_serve c.args.plan.now (InOrder c.in_ok-run_in_order.field-0) v tt tt (λ _. refl, λ _. tt) h) c.settled.ensures
