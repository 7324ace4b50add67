-- A `for` whose head was read: the rule of what is left, and the statement with its body.
use Rattle.std.specs.Prelude.{Bool}
use Rattle.regent_tree.specs.Syntax.{Block, Form}
use Rattle.regent_tree.specs.Plain.{expression_of}
use Rattle.regent_grammar.specs.Rules.{Rule, gives, ◌⊛◌}
use Rattle.regent_grammar.specs.Statements.{Demandable, a_loop_in, a_loop_to, body}
use Rattle.read_statements.specs.declared.ranges.Range.{Range}
use Rattle.read_statements.specs.declared.ranges.Range.TheVariants.{In, To}

abbrev pub looping : Range → Block → Bool → Form
looping (In name domain) b = a_loop_in name (expression_of domain) b
looping (To name from to) b = a_loop_to name (expression_of from) (expression_of to) b

abbrev pub behind_range : Range → Rule Demandable
behind_range range = gives (looping range) ⊛ body
