-- The tokens of a whole text, or its first fault.
use Rattle.std.specs.Prelude.{ℕ, ◌+◌, List, [], ◌∷◌, ◌++◌, Result, Ok, Err, length}
use Rattle.regent_lex.specs.declared.token.Token.{Token}
use Rattle.regent_lex.specs.declared.token.TokenKind.{TokenKind}
use Rattle.regent_lex.specs.declared.fault.LexKind.{LexKind}
use Rattle.regent_lex.specs.Bytes.{feeds}
use Rattle.regent_lex.specs.Trivia.{IsTrivia}
use Rattle.regent_lex.specs.Tokens.{IsToken}
use Rattle.regent_lex.specs.Faults.{IsFault}

-- what reading a text tells: its tokens, or the first fault and its line
abbrev pub Lexed : Type 0
Lexed = Result (List Token) (LexKind × ℕ)

abbrev pub with_token : Token → Lexed → Lexed
with_token t (Ok ts) = Ok (t ∷ ts)
with_token t (Err fault) = Err fault

-- From a place and a line on, the text is trivia and tokens up to its end, or up to a fault. The
-- whole text is read from place 0 and line 1.
pub data Lexes : List ℕ → ℕ → ℕ → Lexed → Type 0 where
  ends : {place line : ℕ} → Lexes [] place line (Ok [])
  -- a blank or a comment, and what comes after it
  skips : {bytes after : List ℕ} {place line : ℕ} {out : Lexed} →
      IsTrivia bytes after → Lexes after (place + length bytes) (line + feeds bytes) out →
      Lexes (bytes ++ after) place line out
  -- a token, and what comes after it
  takes : {kind : TokenKind} {bytes after : List ℕ} {place line : ℕ} {out : Lexed} →
      IsToken kind bytes after → Lexes after (place + length bytes) (line + feeds bytes) out →
      Lexes (bytes ++ after) place line
      (with_token
      (record { kind = kind; start = place; end = place + length bytes; line = line }) out)
  -- a fault, told on the line of its byte
  fails : {kind : LexKind} {bytes after : List ℕ} {place line : ℕ} → IsFault kind bytes after →
      Lexes (bytes ++ after) place line (Err (kind, line + feeds bytes))
