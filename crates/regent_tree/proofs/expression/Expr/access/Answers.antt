use Rattle.std.proofs.Common.{ap}
use Rattle.regent_tree.specs.Syntax.{access_expr}
use Rattle.regent_tree.proofs.Rows.{steps_of_vec}
use Rattle.regent_tree.proofs.expression.Expr.access.Goals as goal

pub returns : goal.returns
returns c = ap (access_expr c.args.name) (steps_of_vec c.args.steps)
