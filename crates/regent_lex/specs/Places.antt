-- What holds of each token of a text.
use Rattle.std.specs.Prelude.{◌≡◌, ℕ, ◌+◌, ◌-◌, ◌<◌, ◌≤◌, List, length, take, drop}
use Rattle.regent_lex.specs.declared.token.Token.{Token}
use Rattle.regent_lex.specs.declared.token.TokenKind.{TokenKind}
use Rattle.regent_lex.specs.Bytes.{feeds}
use Rattle.regent_lex.specs.Tokens.{IsToken}

-- the bytes of a token
abbrev pub spelling : List ℕ → Token → List ℕ
spelling text t = take (t.end - t.start) (drop t.start text)

-- the bytes spell a token of the kind
abbrev pub Spells : TokenKind → List ℕ → Type 0
Spells kind bytes = (after : List ℕ) × IsToken kind bytes after

-- the token has a byte or more, and they stand within the text
abbrev pub IsWithin : List ℕ → Token → Type 0
IsWithin text t = (t.start < t.end) × (t.end ≤ length text)

-- the token's line is 1 and the line feeds before it
abbrev pub IsOnLine : List ℕ → Token → Type 0
IsOnLine text t = t.line ≡ 1 + feeds (take t.start text)
