use Rattle.regent_tree.specs.Plain.{expression_of}
use Rattle.check_variables.proofs.partition_initializers.by_field.Goals as goal

pub returns : goal.returns
returns c = c.by_field_over.ensures (expression_of c.args.colours.now) c.in_ok-t.ensures.1 c.in_ok-t.ensures.0
