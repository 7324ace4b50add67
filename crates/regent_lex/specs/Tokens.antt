-- The table of tokens.
use Rattle.std.specs.Prelude.{◌≡◌, ℕ, ◌^◌, ◌<◌, ◌≤◌, true, false, List, [], ◌∷◌, ◌++◌}
use Rattle.std.specs.Prelude.{length, ◌&&◌}
use Rattle.regent_lex.specs.declared.token.TokenKind.{TokenKind}
use Rattle.regent_lex.specs.declared.token.TokenKind.TheVariants.{Name, Word, Number, Quoted, Sign}
use Rattle.regent_lex.specs.Bytes.{dash, quote_mark, equals_sign, is_letter, is_sign}
use Rattle.regent_lex.specs.Bytes.{takes_equals, next_is, next_is_equals, next_are}
use Rattle.regent_lex.specs.Words.{is_reserved, IsIdentifier}
use Rattle.regent_lex.specs.Numbers.{value_of, IsNumeral, is_fraction}
use Rattle.regent_lex.specs.Strings.{IsContent}

-- The bytes are a token of the kind, given what comes after them. Of the tokens that could stand
-- there it is the longest, so what comes after is no part of it.
pub data IsToken : TokenKind → List ℕ → List ℕ → Type 0 where
  -- a word that isn't reserved, of 64 bytes at most
  name : {bytes after : List ℕ} →
      IsIdentifier bytes after → is_reserved bytes ≡ false → length bytes ≤ 64 →
      IsToken Name bytes after
  -- a reserved word
  word : {bytes after : List ℕ} → IsIdentifier bytes after → is_reserved bytes ≡ true →
      IsToken Word bytes after
  -- digits and LL below 2 ^ 63, with neither a letter nor a fraction right behind them
  number : {digits suffix after : List ℕ} →
      IsNumeral digits suffix after → value_of digits < 2 ^ 63 →
      next_is is_letter after ≡ false → is_fraction after ≡ false →
      IsToken Number (digits ++ suffix) after
  -- a string with its quotes
  quoted : {bytes after : List ℕ} → IsContent bytes →
      IsToken Quoted (quote_mark ∷ bytes ++ quote_mark ∷ []) after
  -- one byte, which doesn't begin a comment or a sign of two bytes
  sign : {b : ℕ} {after : List ℕ} → is_sign b ≡ true → next_are dash dash (b ∷ after) ≡ false →
      (takes_equals b && next_is_equals after) ≡ false → IsToken Sign (b ∷ []) after
  two_byte_sign : {b : ℕ} {after : List ℕ} → takes_equals b ≡ true →
      IsToken Sign (b ∷ equals_sign ∷ []) after
