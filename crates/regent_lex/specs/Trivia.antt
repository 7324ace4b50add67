-- Blanks and comments, which part tokens.
use Rattle.std.specs.Prelude.{◌≡◌, ℕ, Bool, true, false, List, [], ◌∷◌, ◌++◌, ◌||◌, codes}
use Rattle.std.specs.List.{list_all}
use Rattle.regent_lex.specs.Bytes.{opening_bracket, closing_bracket, is_blank, in_line}
use Rattle.regent_lex.specs.Bytes.{next_is, next_are}

-- ]] stands among the bytes
abbrev pub has_brackets : List ℕ → Bool
has_brackets [] = false
has_brackets (b ∷ bs) = next_are closing_bracket closing_bracket (b ∷ bs) || has_brackets bs

-- The bytes are a blank or a comment, given what comes after them. A comment that begins with --[[
-- ends at the first ]] behind that; any other ends before the line feed or at the text's end.
pub data IsTrivia : List ℕ → List ℕ → Type 0 where
  blank : {b : ℕ} {after : List ℕ} → is_blank b ≡ true → IsTrivia (b ∷ []) after
  -- two dashes, and the rest of the line; what they begin is no block comment
  line_comment : {bytes after : List ℕ} →
      list_all in_line bytes ≡ true → next_is in_line after ≡ false →
      next_are opening_bracket opening_bracket (bytes ++ after) ≡ false →
      IsTrivia (codes "--" ++ bytes) after
  -- the ]] at its end is the first one
  block_comment : (bytes : List ℕ) {after : List ℕ} → has_brackets (bytes ++ codes "]") ≡ false →
      IsTrivia (codes "--[[" ++ (bytes ++ codes "]]")) after
