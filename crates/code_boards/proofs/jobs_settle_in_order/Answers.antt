use Rattle.code_boards.proofs.Ends.{jobs_settle_in_order}
use Rattle.code_boards.proofs.jobs_settle_in_order.Goals as goal

pub returns : goal.returns
returns c = jobs_settle_in_order
