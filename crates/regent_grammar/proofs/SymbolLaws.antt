-- What each token of a text stands for is known.
use Rattle.std.proofs.Common.{◌≡◌, ◌≢◌, ℕ, true, List, [], ◌∷◌, Option, Some, None, All}
use Rattle.std.specs.Prelude.{is_some}
use Rattle.std.proofs.lemmas.List.Elements.{All-nil, All-cons, All-head, All-tail}
use Rattle.regent_lex.specs.declared.tables.Mark.{Mark}
use Rattle.regent_lex.specs.declared.tables.Word.{Word}
use Rattle.regent_lex.specs.declared.token.Token.{Token}
use Rattle.regent_lex.specs.declared.token.TokenKind.{TokenKind}
use Rattle.regent_lex.specs.Places as place
use Rattle.regent_lex.specs.Places.{spelling}
use Rattle.regent_lex.specs.Tables.{mark_of, word_of}
use Rattle.regent_lex.specs.Tokens as token
use Rattle.regent_lex.specs.Tokens.{IsToken}
use Rattle.regent_lex.specs.Words.{is_reserved}
use Rattle.regent_grammar.specs.declared.symbol.Symbol.{Symbol}
use Rattle.regent_grammar.specs.declared.symbol.Symbol.TheVariants as symbol
use Rattle.regent_grammar.specs.declared.symbol.Terminal.{Terminal}
use Rattle.regent_grammar.specs.Laws as law
use Rattle.regent_grammar.specs.Terminals.{terminals, terminal_of, symbol_of, word_symbol, mark_symbol}

word_known : (o : Option Word) → is_some o ≡ true → word_symbol o ≢ symbol.Unknown
word_known None h = absurd cc
word_known (Some w) h = λ e. cc

mark_known : (o : Option Mark) → is_some o ≡ true → mark_symbol o ≢ symbol.Unknown
mark_known None h = absurd cc
mark_known (Some m) h = λ e. cc

token_known : {k : TokenKind} {bytes after : List ℕ} → IsToken k bytes after →
    symbol_of k bytes ≢ symbol.Unknown
unfolding is_reserved
token_known (token.name h r l) = λ e. cc
token_known (token.word {bytes = bytes} h r) = word_known (word_of bytes) r
token_known (token.number h v l f) = λ e. cc
token_known (token.quoted h) = λ e. cc
token_known (token.sign {b = b} s d e) = mark_known (mark_of (b ∷ [])) s
token_known (token.two_byte_sign {b = b} s) = mark_known (mark_of (b ∷ 61 ∷ [])) s

pub all_known : law.AllKnown
all_known text [] h = All-nil (λ (t : Terminal). t.symbol ≢ symbol.Unknown)
all_known text (t ∷ ts) h =
    All-cons (λ (u : Terminal). u.symbol ≢ symbol.Unknown) (terminal_of text t) (terminals text ts)
    (token_known (All-head (λ (u : Token). place.Spells u.kind (spelling text u)) t ts h).1)
    (all_known text ts (All-tail (λ (u : Token). place.Spells u.kind (spelling text u)) t ts h))
