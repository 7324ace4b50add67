-- A board on which a fault comes before all that isn't over tells the outcome of its job.
use Rattle.std.proofs.Common.{◌≡◌, ℕ, List, subst}
use Rattle.machine_terms.specs.Jobs.{order_run}
use Rattle.code_boards.specs.Views.{spaces_of}
use Rattle.code_boards.proofs.Ends.{jobs_settle_in_order}
use Rattle.order_boards.specs.Outcomes.{IsOutcome}
use Rattle.order_boards.specs.Settled.{SettledBoardsAgree}
use Rattle.order_boards.proofs.Jobs.{order_runs_agree}

pub settled_boards_agree : SettledBoardsAgree
settled_boards_agree job t steps b x text found may made settled =
    let order = order_runs_agree job t found may in
    subst (λ q. IsOutcome (spaces_of job.code) order.0 order.1 q (order_run job)) (jobs_settle_in_order job t steps b x text found made settled) order.3
