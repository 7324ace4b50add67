use Rattle.std.proofs.Common.{ap}
use Rattle.regent_tree.specs.Syntax.{while_form}
use Rattle.regent_tree.specs.Plain.{expression_of}
use Rattle.regent_tree.proofs.Rows.{block_of_vec}
use Rattle.regent_tree.proofs.statement.What.repeat.Goals as goal

pub returns : goal.returns
returns c = ap (while_form (expression_of c.args.test)) (block_of_vec c.args.body)
