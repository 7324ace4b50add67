-- What is no token, and at which byte that is told.
use Rattle.std.specs.Prelude.{◌≡◌, ◌≢◌, ℕ, ◌^◌, ◌<◌, ◌≤◌, true, false, List, [], ◌∷◌}
use Rattle.std.specs.Prelude.{◌++◌, length, codes, ◌&&◌, ◌||◌}
use Rattle.std.specs.List.{list_all}
use Rattle.regent_lex.specs.declared.fault.LexKind.{LexKind}
use Rattle.regent_lex.specs.declared.fault.LexKind.TheVariants.{BadByte, Unclosed}
use Rattle.regent_lex.specs.declared.fault.LexKind.TheVariants.{NumberTooLarge, NameTooLong}
use Rattle.regent_lex.specs.Bytes.{quote_mark, backslash, is_blank, is_digit, is_letter}
use Rattle.regent_lex.specs.Bytes.{is_sign, takes_equals, next_is, next_is_equals}
use Rattle.regent_lex.specs.Words.{is_reserved, IsIdentifier}
use Rattle.regent_lex.specs.Numbers.{value_of, IsNumeral, is_fraction}
use Rattle.regent_lex.specs.Strings.{is_escape, IsContent, IsClosed}
use Rattle.regent_lex.specs.Trivia.{has_brackets}

-- A fault of the kind is told at the first byte of the second list. The first list stands before
-- it, from where the last token, blank or comment ended.
pub data IsFault : LexKind → List ℕ → List ℕ → Type 0 where
  -- a name of more than 64 bytes, told at its first byte
  long_name : {name after : List ℕ} →
      IsIdentifier name after → is_reserved name ≡ false → 64 < length name →
      IsFault NameTooLong [] (name ++ after)
  -- digits that spell 2 ^ 63 or more, told at the first of them
  large_number : (digits after : List ℕ) →
      next_is is_digit digits ≡ true → list_all is_digit digits ≡ true →
      next_is is_digit after ≡ false → 2 ^ 63 ≤ value_of digits →
      IsFault NumberTooLarge [] (digits ++ after)
  -- a letter, or a dot with a digit behind it, right behind a number
  behind_number : {digits suffix after : List ℕ} →
      IsNumeral digits suffix after → value_of digits < 2 ^ 63 →
      (next_is is_letter after || is_fraction after) ≡ true →
      IsFault BadByte (digits ++ suffix) after
  -- a block comment or a string that isn't closed, told at its first byte
  open_comment : {bytes : List ℕ} → has_brackets bytes ≡ false →
      IsFault Unclosed [] (codes "--[[" ++ bytes)
  open_string : {bytes : List ℕ} → (IsClosed bytes → ⊥) → IsFault Unclosed [] (quote_mark ∷ bytes)
  -- in a string that is closed, the first byte that may not stand there: one below 32
  control_byte : {b : ℕ} {bytes after : List ℕ} →
      IsContent bytes → b < 32 → IsClosed (bytes ++ b ∷ after) →
      IsFault BadByte (quote_mark ∷ bytes) (b ∷ after)
  -- or one behind a backslash that is no escape
  unknown_escape : {c : ℕ} {bytes after : List ℕ} →
      IsContent bytes → is_escape c ≡ false → IsClosed (bytes ++ backslash ∷ c ∷ after) →
      IsFault BadByte (quote_mark ∷ bytes ++ backslash ∷ []) (c ∷ after)
  -- a byte that begins neither a token nor a comment and is no blank
  begins_nothing : {b : ℕ} {after : List ℕ} →
      is_blank b ≡ false → is_letter b ≡ false → is_digit b ≡ false → b ≢ quote_mark →
      is_sign b ≡ false → (takes_equals b && next_is_equals after) ≡ false →
      IsFault BadByte [] (b ∷ after)
