-- What is read of a text leaves less of it.
use Rattle.std.proofs.Common.{◌≡◌, ◌<◌, ◌≤◌, List, length, refl}
use Rattle.regent_tree.specs.Syntax.{Expression}
use Rattle.regent_grammar.specs.declared.symbol.Terminal.{Terminal}
use Rattle.regent_lex.specs.declared.tables.Word.TheVariants as word
use Rattle.regent_grammar.specs.Guards.{takes, is_sound}
use Rattle.regent_grammar.specs.Nodes.{Armed}
use Rattle.regent_grammar.specs.Reading.{read, reading}
use Rattle.regent_grammar.specs.Rules.{many, ◌⊳◌}
use Rattle.regent_grammar.specs.Singles.{a_word}
use Rattle.regent_grammar.specs.Symbols.{comes, is_word}
use Rattle.regent_grammar.specs.Expressions.{expression}
use Rattle.regent_grammar.specs.Statements.{arm}
use Rattle.regent_grammar.proofs.Facts.{all_rules}
use Rattle.regent_grammar.proofs.ReadingLaws.{shorter, no_longer}

pub expression_less : (ts : List Terminal) (e : Expression) (rest : List Terminal) → reading expression ts ≡ read e rest → length rest < length ts
unfolding all_rules is_sound takes
expression_less ts e rest h = shorter expression refl refl ts e rest h

pub arm_rest : (ts : List Terminal) (a : Armed) (rest : List Terminal) → reading arm ts ≡ read a rest → length rest < length ts
unfolding all_rules is_sound takes
arm_rest ts a rest h = shorter arm refl refl ts a rest h

pub arms_rest : (ts : List Terminal) (arms : List Armed) (rest : List Terminal) →
    reading (many (comes (is_word word.Elseif)) (a_word word.Elseif ⊳ arm)) ts ≡ read arms rest → length rest ≤ length ts
unfolding all_rules is_sound takes
arms_rest ts arms rest h = no_longer (many (comes (is_word word.Elseif)) (a_word word.Elseif ⊳ arm)) refl ts arms rest h

pub first_rest : (ts : List Terminal) (a : Armed) (rest : List Terminal) → reading (a_word word.If ⊳ arm) ts ≡ read a rest → length rest < length ts
unfolding all_rules is_sound takes
first_rest ts a rest h = shorter (a_word word.If ⊳ arm) refl refl ts a rest h
