-- That the example's text is read, computed: its tokens, what they stand for, and the tree that they spell.
use Rattle.std.proofs.Common.{List, Ok, Some, [], codes, pos, refl, subst, sym, ◌∷◌, ℕ, ◌≡◌, arith}
use Rattle.lane_kernels.specs.declared.numbers.Width.TheVariants.{W32}
use Rattle.regent_lex.specs.Scan.{element_at, identifier_at, number_at, sign_at}
use Rattle.regent_lex.specs.Tables.{mark_of, word_of}
use Rattle.regent_lex.specs.Words.{is_reserved}
use Rattle.regent_lex.specs.declared.tables.Mark.TheVariants as mark
use Rattle.regent_lex.specs.declared.tables.Word.TheVariants as word
use Rattle.regent_lex.specs.declared.token.Token.{Token}
use Rattle.regent_lex.specs.declared.token.TokenKind.{TokenKind}
use Rattle.regent_lex.specs.declared.token.TokenKind.TheVariants.{Name, Number, Sign, Word}
use Rattle.regent_grammar.proofs.Facts.{all_rules, program_sound}
use Rattle.regent_grammar.proofs.ReadingLaws.{told}
use Rattle.regent_grammar.specs.Derivations.{IsProgram}
use Rattle.regent_grammar.specs.Items.{program}
use Rattle.regent_grammar.specs.Reading.{later_upto, many_upto, now, read, reading, reading_with, then_read}
use Rattle.regent_grammar.specs.Terminals.{terminals}
use Rattle.regent_grammar.specs.declared.symbol.Symbol.{Symbol}
use Rattle.regent_grammar.specs.declared.symbol.Symbol.TheVariants as symbol
use Rattle.regent_grammar.specs.declared.symbol.Terminal.{Terminal}
use Rattle.regent_reader.specs.Texts.{Nests, has_tokens, is_tree}
use Rattle.text_laws.specs.Example.{ExampleIsRead, example_text, example_tree}
use Rattle.text_laws.proofs.Lexing.{scanned, scanned_lexes}

abbrev token : TokenKind → ℕ → ℕ → ℕ → Token
token kind start end line = record { kind = kind; start = start; end = end; line = line }

abbrev at : ℕ → Symbol → Terminal
at line s = record { symbol = s; line = line }

abbrev tokens : List Token
tokens =
    token Word 0 6 1 ∷ token Name 7 8 1 ∷ token Sign 9 10 1 ∷ token Name 11 12 1 ∷ token Sign 13 14 1 ∷
    token Word 15 20 1 ∷ token Sign 21 22 1 ∷ token Word 23 27 2 ∷ token Name 28 29 2 ∷ token Sign 29 30 2 ∷
    token Name 30 31 2 ∷ token Sign 32 33 2 ∷ token Word 34 40 2 ∷ token Sign 40 41 2 ∷ token Word 41 47 2 ∷
    token Sign 47 48 2 ∷ token Word 48 53 2 ∷ token Sign 53 54 2 ∷ token Sign 54 55 2 ∷ token Name 56 57 2 ∷
    token Sign 57 58 2 ∷ token Sign 58 59 2 ∷ token Word 60 65 2 ∷ token Word 66 71 2 ∷ token Word 72 79 2 ∷
    token Sign 79 80 2 ∷ token Sign 80 81 2 ∷ token Name 81 82 2 ∷ token Sign 82 83 2 ∷ token Name 83 84 2 ∷
    token Sign 84 85 2 ∷ token Word 86 88 2 ∷ token Name 89 90 2 ∷ token Sign 90 91 2 ∷ token Number 91 92 2 ∷
    token Sign 92 93 2 ∷ token Sign 93 94 2 ∷ token Name 94 95 2 ∷ token Sign 96 98 2 ∷ token Name 99 100 2 ∷
    token Sign 100 101 2 ∷ token Number 101 102 2 ∷ token Sign 102 103 2 ∷ token Sign 103 104 2 ∷
    token Name 104 105 2 ∷ token Word 106 109 2 ∷ token Word 111 115 4 ∷ token Name 116 120 4 ∷
    token Sign 120 121 4 ∷ token Sign 121 122 4 ∷ token Word 123 126 5 ∷ token Name 127 128 5 ∷
    token Sign 129 130 5 ∷ token Word 131 137 5 ∷ token Sign 137 138 5 ∷ token Word 138 144 5 ∷
    token Sign 144 145 5 ∷ token Word 145 150 5 ∷ token Sign 150 151 5 ∷ token Number 152 153 5 ∷
    token Sign 153 154 5 ∷ token Sign 154 155 5 ∷ token Name 156 157 5 ∷ token Sign 157 158 5 ∷
    token Name 159 160 6 ∷ token Sign 160 161 6 ∷ token Name 161 162 6 ∷ token Sign 162 163 6 ∷
    token Word 164 167 6 ∷ []

abbrev spelt : List Terminal
spelt =
    at 1 (symbol.Word word.Fspace) ∷ at 1 (symbol.Name (codes "f")) ∷ at 1 (symbol.Mark mark.OpenBrace) ∷
    at 1 (symbol.Name (codes "x")) ∷ at 1 (symbol.Mark mark.Colon) ∷ at 1 (symbol.Word word.Int64) ∷
    at 1 (symbol.Mark mark.CloseBrace) ∷ at 2 (symbol.Word word.Task) ∷ at 2 (symbol.Name (codes "t")) ∷
    at 2 (symbol.Mark mark.Open) ∷ at 2 (symbol.Name (codes "r")) ∷ at 2 (symbol.Mark mark.Colon) ∷
    at 2 (symbol.Word word.Region) ∷ at 2 (symbol.Mark mark.Open) ∷ at 2 (symbol.Word word.Ispace) ∷
    at 2 (symbol.Mark mark.Open) ∷ at 2 (symbol.Word word.Int1d) ∷ at 2 (symbol.Mark mark.Close) ∷
    at 2 (symbol.Mark mark.Comma) ∷ at 2 (symbol.Name (codes "f")) ∷ at 2 (symbol.Mark mark.Close) ∷
    at 2 (symbol.Mark mark.Close) ∷ at 2 (symbol.Word word.Where) ∷ at 2 (symbol.Word word.Reads) ∷
    at 2 (symbol.Word word.Reduces) ∷ at 2 (symbol.Mark mark.Plus) ∷ at 2 (symbol.Mark mark.Open) ∷
    at 2 (symbol.Name (codes "r")) ∷ at 2 (symbol.Mark mark.Dot) ∷ at 2 (symbol.Name (codes "x")) ∷
    at 2 (symbol.Mark mark.Close) ∷ at 2 (symbol.Word word.Do) ∷ at 2 (symbol.Name (codes "r")) ∷
    at 2 (symbol.Mark mark.OpenSquare) ∷ at 2 (symbol.Number (pos 0) W32) ∷
    at 2 (symbol.Mark mark.CloseSquare) ∷ at 2 (symbol.Mark mark.Dot) ∷ at 2 (symbol.Name (codes "x")) ∷
    at 2 (symbol.Mark mark.PlusAssign) ∷ at 2 (symbol.Name (codes "r")) ∷ at 2 (symbol.Mark mark.OpenSquare) ∷
    at 2 (symbol.Number (pos 1) W32) ∷ at 2 (symbol.Mark mark.CloseSquare) ∷ at 2 (symbol.Mark mark.Dot) ∷
    at 2 (symbol.Name (codes "x")) ∷ at 2 (symbol.Word word.End) ∷ at 4 (symbol.Word word.Task) ∷
    at 4 (symbol.Name (codes "main")) ∷ at 4 (symbol.Mark mark.Open) ∷ at 4 (symbol.Mark mark.Close) ∷
    at 5 (symbol.Word word.Var) ∷ at 5 (symbol.Name (codes "s")) ∷ at 5 (symbol.Mark mark.Assign) ∷
    at 5 (symbol.Word word.Region) ∷ at 5 (symbol.Mark mark.Open) ∷ at 5 (symbol.Word word.Ispace) ∷
    at 5 (symbol.Mark mark.Open) ∷ at 5 (symbol.Word word.Int1d) ∷ at 5 (symbol.Mark mark.Comma) ∷
    at 5 (symbol.Number (pos 2) W32) ∷ at 5 (symbol.Mark mark.Close) ∷ at 5 (symbol.Mark mark.Comma) ∷
    at 5 (symbol.Name (codes "f")) ∷ at 5 (symbol.Mark mark.Close) ∷ at 6 (symbol.Name (codes "t")) ∷
    at 6 (symbol.Mark mark.Open) ∷ at 6 (symbol.Name (codes "s")) ∷ at 6 (symbol.Mark mark.Close) ∷
    at 6 (symbol.Word word.End) ∷ []

is_scanned : scanned 200 example_text 0 1 ≡ Some (Ok tokens)
unfolding element_at identifier_at number_at sign_at word_of mark_of is_reserved
is_scanned = refl

stands_for : terminals example_text tokens ≡ spelt
unfolding word_of mark_of
stands_for = refl

is_read : reading program spelt ≡ read example_tree []
unfolding all_rules reading reading_with then_read many_upto later_upto now
is_read = refl

is_program : IsProgram spelt example_tree
is_program = told program program_sound spelt example_tree [] is_read

pub example_is_read : ExampleIsRead
example_is_read = record {
  read = has_tokens (omega arith) (scanned_lexes 200 example_text 0 1 (Ok tokens) is_scanned)
      (subst (λ ls. Nests example_text ls (Ok example_tree)) (sym stands_for) (is_tree is_program));
  accepted = refl;
  no_inputs = refl;
}
