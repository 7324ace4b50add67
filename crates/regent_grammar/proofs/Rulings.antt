-- The productions that lead back to themselves do so behind a terminal, and what they repeat takes
-- one.
use Rattle.std.proofs.Common.{◌≡◌, true, false, refl}
use Rattle.regent_grammar.specs.Rules.{Nonterminal, an_expression, a_block}
use Rattle.regent_grammar.specs.Grammar.{rule_of}
use Rattle.regent_grammar.specs.Guards.{takes_named, takes, leads, is_sound}
use Rattle.regent_grammar.proofs.Facts.{all_rules}

pub named_takes : (n : Nonterminal) → takes (rule_of n) ≡ takes_named n
unfolding all_rules takes leads is_sound
named_takes an_expression = refl
named_takes a_block = refl

pub named_leads : (n : Nonterminal) → leads (rule_of n) ≡ false
unfolding all_rules takes leads is_sound
named_leads an_expression = refl
named_leads a_block = refl

pub named_sound : (n : Nonterminal) → is_sound (rule_of n) ≡ true
unfolding all_rules takes leads is_sound
named_sound an_expression = refl
named_sound a_block = refl
