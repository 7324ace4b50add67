use Rattle.std.proofs.Common.{ap}
use Rattle.regent_tree.specs.Syntax.{for_in_form}
use Rattle.regent_tree.specs.Plain.{expression_of}
use Rattle.regent_tree.proofs.Rows.{block_of_vec}
use Rattle.regent_tree.proofs.statement.What.for_in.Goals as goal

pub returns : goal.returns
returns c = ap (for_in_form c.args.demanded c.args.name (expression_of c.args.domain)) (block_of_vec c.args.body)
