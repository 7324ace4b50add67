-- Reserved words, and what is spelt as names are.
use Rattle.std.specs.Prelude.{◌≡◌, ℕ, Bool, true, false, List, is_some}
use Rattle.std.specs.List.{list_all}
use Rattle.regent_lex.specs.Bytes.{is_letter, is_word_byte, next_is}
use Rattle.regent_lex.specs.Tables.{word_of}

-- the bytes are a reserved word
unfoldable pub is_reserved : List ℕ → Bool
is_reserved word = is_some (word_of word)

-- The bytes are a letter or _ and then letters, digits and _, as far as they go: what comes after
-- them is none of these.
pub record IsIdentifier (bytes after : List ℕ) : Type 0 where
  pub first : next_is is_letter bytes ≡ true
  pub all : list_all is_word_byte bytes ≡ true
  pub longest : next_is is_word_byte after ≡ false
