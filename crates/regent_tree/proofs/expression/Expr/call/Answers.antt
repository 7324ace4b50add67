use Rattle.std.proofs.Common.{ap}
use Rattle.regent_tree.specs.Syntax.{call_expr}
use Rattle.regent_tree.proofs.Rows.{expressions_of_vec}
use Rattle.regent_tree.proofs.expression.Expr.call.Goals as goal

pub returns : goal.returns
returns c = ap (call_expr c.args.task) (expressions_of_vec c.args.args)
