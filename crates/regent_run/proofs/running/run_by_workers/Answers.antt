use Rattle.regent_run.specs.Traces.{all_serve}
use Rattle.regent_run.proofs.Meant.{ok_on, plan_told}
use Rattle.regent_run.proofs.running.run_by_workers.Goals as goal

pub returns : goal.returns
returns g c =
    ok_on c.settled.result
    (λ v h. plan_told all_serve c.args.plan.now c.in_ok-ran.ran v c.in_ok-ran.ensures.ended c.in_ok-ran.ensures.job
    (λ is. c.seats_for.ensures.none.0 (c.in_ok-ran.ensures.in_order.0 is), λ none. c.in_ok-ran.ensures.in_order.1 (c.seats_for.ensures.none.1 none)) h) c.settled.ensures
