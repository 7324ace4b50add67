-- What is read of a text leaves less of it.
use Rattle.std.proofs.Common.{◌≡◌, ◌<◌, ◌≤◌, List, length, refl, true, arith}
use Rattle.regent_tree.specs.declared.expression.Sign.{Sign}
use Rattle.regent_tree.specs.declared.types.PointerTerm.{PointerTerm}
use Rattle.regent_tree.specs.Syntax.{Expression}
use Rattle.regent_grammar.specs.declared.symbol.Terminal.{Terminal}
use Rattle.regent_grammar.specs.Guards.{takes, is_sound}
use Rattle.regent_grammar.specs.Reading.{read, reading}
use Rattle.regent_grammar.specs.Rules.{many}
use Rattle.regent_grammar.specs.Symbols.{comes}
use Rattle.regent_grammar.specs.Types.{pointer}
use Rattle.regent_grammar.specs.Expressions.{expression, is_sign, a_sign, link, an_operator}
use Rattle.regent_grammar.proofs.Facts.{all_rules}
use Rattle.regent_grammar.proofs.ReadingLaws.{shorter, no_longer}
use Rattle.read_terms.specs.Levels.{rank, operator_at, rule_at}
use Rattle.read_terms.specs.declared.operators.Level.{Level}
use Rattle.read_terms.specs.declared.operators.Level.TheVariants.{Prefix, Product, Sum, Comparison, Conjunction, Disjunction}

pub pointer_rest : (ts : List Terminal) (p : PointerTerm) (rest : List Terminal) → reading pointer ts ≡ read p rest → length rest < length ts
unfolding all_rules is_sound takes
pointer_rest ts p rest h = shorter pointer refl refl ts p rest h

pub expression_rest : (ts : List Terminal) (e : Expression) (rest : List Terminal) → reading expression ts ≡ read e rest → length rest < length ts
unfolding all_rules is_sound takes
expression_rest ts e rest h = shorter expression refl refl ts e rest h

level_sound : (l : Level) → is_sound (rule_at l) ≡ true
unfolding all_rules is_sound takes
level_sound Prefix = refl
level_sound Product = refl
level_sound Sum = refl
level_sound Comparison = refl
level_sound Conjunction = refl
level_sound Disjunction = refl

level_takes : (l : Level) → takes (rule_at l) ≡ true
unfolding all_rules is_sound takes
level_takes Prefix = refl
level_takes Product = refl
level_takes Sum = refl
level_takes Comparison = refl
level_takes Conjunction = refl
level_takes Disjunction = refl

pub chain_rest : (l : Level) (ts : List Terminal) (e : Expression) (rest : List Terminal) → reading (rule_at l) ts ≡ read e rest → length rest < length ts
chain_rest l ts e rest h = shorter (rule_at l) (level_sound l) (level_takes l) ts e rest h

pub rank_bound : (l : Level) → rank l ≤ 5
rank_bound Prefix = omega arith
rank_bound Product = omega arith
rank_bound Sum = omega arith
rank_bound Comparison = omega arith
rank_bound Conjunction = omega arith
rank_bound Disjunction = omega arith

pub signs_rest : (ts : List Terminal) (ss : List Sign) (rest : List Terminal) → reading (many (comes is_sign) a_sign) ts ≡ read ss rest → length rest ≤ length ts
unfolding all_rules is_sound takes
signs_rest ts ss rest h = no_longer (many (comes is_sign) a_sign) refl ts ss rest h

pub link_sound : (l m : Level) → is_sound (link (operator_at l) (rule_at m)) ≡ true
unfolding link an_operator is_sound takes
link_sound l m = level_sound m

pub link_takes : (l m : Level) → takes (link (operator_at l) (rule_at m)) ≡ true
unfolding link an_operator is_sound takes
link_takes l m = refl
