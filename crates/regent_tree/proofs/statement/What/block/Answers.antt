use Rattle.std.proofs.Common.{ap}
use Rattle.regent_tree.specs.Syntax.{do_form}
use Rattle.regent_tree.proofs.Rows.{block_of_vec}
use Rattle.regent_tree.proofs.statement.What.block.Goals as goal

pub returns : goal.returns
returns c = ap do_form (block_of_vec c.args.body)
