use Rattle.code_boards.proofs.Ends.{order_runs_end}
use Rattle.code_boards.proofs.order_runs_end.Goals as goal

pub returns : goal.returns
returns c = order_runs_end
