use Rattle.std.proofs.Common.{ap}
use Rattle.regent_tree.specs.Syntax.{chain_expr}
use Rattle.regent_tree.specs.Plain.{expression_of}
use Rattle.regent_tree.proofs.Rows.{links_of_vec}
use Rattle.regent_tree.proofs.expression.Expr.chain.Goals as goal

pub returns : goal.returns
returns c = ap (chain_expr (expression_of c.args.first.value)) (links_of_vec c.args.rest)
