-- Strings: what stands between two quotes.
use Rattle.std.specs.Prelude.{◌≡◌, ◌≢◌, ℕ, ◌≤◌, Bool, true, List, [], ◌∷◌, ◌==◌, codes}
use Rattle.std.specs.List.{list_any}
use Rattle.regent_lex.specs.Bytes.{line_feed, quote_mark, backslash}

-- what may stand behind a backslash: n, t, a quote and a backslash
abbrev pub is_escape : ℕ → Bool
is_escape c = list_any (λ d. c == d) (codes "nt\"\\")

-- Bytes that may stand in a string: escapes, and bytes of 32 and more but a quote.
pub data IsContent : List ℕ → Type 0 where
  no_bytes : IsContent []
  escape : {c : ℕ} {bytes : List ℕ} → is_escape c ≡ true → IsContent bytes →
      IsContent (backslash ∷ c ∷ bytes)
  itself : {b : ℕ} {bytes : List ℕ} → 32 ≤ b → b ≢ quote_mark → b ≢ backslash → IsContent bytes →
      IsContent (b ∷ bytes)

-- What stands behind an opening quote has a closing one before the first line feed. A backslash
-- takes the byte behind it along, whatever it is.
pub data IsClosed : List ℕ → Type 0 where
  quote : {after : List ℕ} → IsClosed (quote_mark ∷ after)
  pair : {c : ℕ} {bytes : List ℕ} → c ≢ line_feed → IsClosed bytes →
      IsClosed (backslash ∷ c ∷ bytes)
  single : {b : ℕ} {bytes : List ℕ} → b ≢ line_feed → b ≢ quote_mark → b ≢ backslash →
      IsClosed bytes → IsClosed (b ∷ bytes)
