-- What tokens stand for, and the terminals of a text.
use Rattle.std.specs.Prelude.{ℕ, pos, Bool, List, Option, Some, None, map, nat_le, if◌then◌else◌}
use Rattle.lane_kernels.specs.declared.numbers.Width.{Width}
use Rattle.lane_kernels.specs.declared.numbers.Width.TheVariants.{W32, W64}
use Rattle.regent_lex.specs.declared.token.Token.{Token}
use Rattle.regent_lex.specs.declared.token.TokenKind.{TokenKind}
use Rattle.regent_lex.specs.declared.token.TokenKind.TheVariants as kind
use Rattle.regent_lex.specs.Places.{spelling}
use Rattle.regent_lex.specs.Tables.{mark_of, word_of}
use Rattle.regent_lex.specs.Values.{number_value, has_suffix, quoted_bytes}
use Rattle.regent_grammar.specs.declared.symbol.Terminal.{Terminal}
use Rattle.regent_lex.specs.declared.tables.Mark.{Mark}
use Rattle.regent_grammar.specs.declared.symbol.Symbol.{Symbol}
use Rattle.regent_grammar.specs.declared.symbol.Symbol.TheVariants as symbol
use Rattle.regent_lex.specs.declared.tables.Word.{Word}

-- the symbol of a word or a sign; each token of these kinds stands in its table
abbrev pub word_symbol : Option Word → Symbol
word_symbol (Some w) = symbol.Word w
word_symbol None = symbol.Unknown

abbrev pub mark_symbol : Option Mark → Symbol
mark_symbol (Some m) = symbol.Mark m
mark_symbol None = symbol.Unknown

-- a number of at most 2^31 - 1 without `LL` has 32 bits, any other has 64
abbrev pub number_width : ℕ → Bool → Width
number_width value suffix = if suffix then W64 else if nat_le value 2147483647 then W32 else W64

-- what the bytes of a token stand for
abbrev pub symbol_of : TokenKind → List ℕ → Symbol
symbol_of kind.Name bytes = symbol.Name bytes
symbol_of kind.Word bytes = word_symbol (word_of bytes)
symbol_of kind.Number bytes =
    symbol.Number (pos (number_value bytes)) (number_width (number_value bytes) (has_suffix bytes))
symbol_of kind.Quoted bytes = symbol.Text (quoted_bytes bytes)
symbol_of kind.Sign bytes = mark_symbol (mark_of bytes)

abbrev pub terminal_of : List ℕ → Token → Terminal
terminal_of text t = record { symbol = symbol_of t.kind (spelling text t); line = t.line }

-- the terminals of a text's tokens
abbrev pub terminals : List ℕ → List Token → List Terminal
terminals text tokens = map (terminal_of text) tokens
