use Rattle.board_trees.proofs.Settled.{shown_is_settled}
use Rattle.board_trees.proofs.shown_is_settled.Goals as goal

pub returns : goal.returns
returns c = shown_is_settled
