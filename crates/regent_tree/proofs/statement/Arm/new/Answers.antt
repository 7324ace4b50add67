use Rattle.std.proofs.Common.{ap}
use Rattle.regent_tree.specs.Syntax.{an_arm}
use Rattle.regent_tree.specs.Plain.{expression_of}
use Rattle.regent_tree.proofs.Rows.{block_of_vec}
use Rattle.regent_tree.proofs.statement.Arm.new.Goals as goal

pub returns : goal.returns
unfolding Rattle.regent_tree.specs.declared.statement.What.TheViews.roll-Arm denote.Hole.Carrier.roll
returns c = λ rest. ap (λ body. an_arm (expression_of c.args.test) body rest) (block_of_vec c.args.body)
