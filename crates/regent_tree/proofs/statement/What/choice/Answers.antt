use Rattle.regent_tree.proofs.Rows.{arms_of_vec, otherwise_of_option}
use Rattle.regent_tree.proofs.statement.What.choice.Goals as goal

pub returns : goal.returns
returns c = rw (arms_of_vec c.args.arms, otherwise_of_option c.args.other)
