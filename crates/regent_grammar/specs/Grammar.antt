-- The productions that lead back to themselves.
use Rattle.regent_grammar.specs.Rules.{Rule, Nonterminal, an_expression, a_block, spelt_by}
use Rattle.regent_grammar.specs.Expressions.{disjunction}
use Rattle.regent_grammar.specs.Statements.{statements}

abbrev pub rule_of : (n : Nonterminal) → Rule (spelt_by n)
rule_of an_expression = disjunction
rule_of a_block = statements
