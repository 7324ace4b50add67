-- Chains by how tightly their operators bind.
use Rattle.std.specs.Prelude.{ℕ, Option, None}
use Rattle.regent_tree.specs.declared.expression.Operator.{Operator}
use Rattle.regent_grammar.specs.declared.symbol.Symbol.{Symbol}
use Rattle.regent_grammar.specs.Rules.{Sort, Rule}
use Rattle.regent_grammar.specs.Expressions.{prefix, product, sum, compare, conjunction, disjunction, product_operator, sum_operator, compare_operator, and_operator, or_operator}
use Rattle.read_terms.specs.declared.operators.Level.{Level}
use Rattle.read_terms.specs.declared.operators.Level.TheVariants.{Prefix, Product, Sum, Comparison, Conjunction, Disjunction}

abbrev pub rank : Level → ℕ
rank Prefix = 0
rank Product = 1
rank Sum = 2
rank Comparison = 3
rank Conjunction = 4
rank Disjunction = 5

abbrev pub operator_at : Level → Symbol → Option Operator
operator_at Prefix s = None
operator_at Product s = product_operator s
operator_at Sum s = sum_operator s
operator_at Comparison s = compare_operator s
operator_at Conjunction s = and_operator s
operator_at Disjunction s = or_operator s

abbrev pub rule_at : Level → Rule Sort.expression
rule_at Prefix = prefix
rule_at Product = product
rule_at Sum = sum
rule_at Comparison = compare
rule_at Conjunction = conjunction
rule_at Disjunction = disjunction
