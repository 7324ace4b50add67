-- What the code's nodes are as parts that are read.
use Rattle.regent_tree.specs.declared.expression.Link.{Link}
use Rattle.regent_tree.specs.declared.expression.Step.{Step, Field, At}
use Rattle.regent_tree.specs.Plain.{expression_of}
use Rattle.regent_grammar.specs.Nodes.{Joined, Stepped, by_field, by_place}

abbrev pub joined_of : Link → Joined
joined_of l = record { operator = l.operator; operand = expression_of l.operand }

abbrev pub stepped_of : Step → Stepped
stepped_of (Field name) = by_field name
stepped_of (At e) = by_place (expression_of e)
