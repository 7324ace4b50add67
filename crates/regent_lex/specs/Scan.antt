-- What the scanner finds at the front of a text. That this is what the table of tokens says is a
-- law, proved in both directions; no public clause speaks of it.
use Rattle.std.specs.Prelude.{ℕ, ◌+◌, ◌^◌, false, List, [], ◌∷◌, Option, Some, None}
use Rattle.std.specs.Prelude.{length, take, drop, nat_lt, ◌==◌, ◌&&◌, ◌||◌, if◌then◌else◌}
use Rattle.std.specs.List.{prefix_len}
use Rattle.regent_lex.specs.declared.input_element.InputElement.{InputElement}
use Rattle.regent_lex.specs.declared.input_element.InputElement.TheVariants.{Trivia, Token, Fault}
use Rattle.regent_lex.specs.declared.token.TokenKind.TheVariants.{Name, Word, Number, Quoted, Sign}
use Rattle.regent_lex.specs.declared.fault.LexKind.TheVariants.{BadByte, Unclosed}
use Rattle.regent_lex.specs.declared.fault.LexKind.TheVariants.{NumberTooLarge, NameTooLong}
use Rattle.regent_lex.specs.declared.search.Wanted.TheVariants.{ClosingQuote, BadContent, Brackets}
use Rattle.regent_lex.specs.Bytes.{is_blank, is_digit, is_letter, is_word_byte, in_line}
use Rattle.regent_lex.specs.Bytes.{is_sign, takes_equals, next_is, next_is_equals, next_are}
use Rattle.regent_lex.specs.Bytes.{dash, capital_l, quote_mark, opening_bracket}
use Rattle.regent_lex.specs.Words.{is_reserved}
use Rattle.regent_lex.specs.Numbers.{value_of, is_fraction}
use Rattle.regent_lex.specs.Search.{search}

-- the input element of an identifier
abbrev pub word_or_name : List ℕ → InputElement
word_or_name s =
    if is_reserved s then Token Word (length s)
    else if nat_lt 64 (length s) then Fault NameTooLong 0
    else Token Name (length s)

unfoldable pub identifier_at : List ℕ → InputElement
identifier_at text = word_or_name (take (prefix_len is_word_byte text) text)

-- the input element of a number of n bytes, by what comes after it
abbrev pub number_before : ℕ → List ℕ → InputElement
number_before n after =
    if next_is is_letter after || is_fraction after then Fault BadByte n else Token Number n

-- the input element of a number of n digits, by whether LL comes after them
abbrev pub number_of_digits : ℕ → List ℕ → InputElement
number_of_digits n text =
    if next_are capital_l capital_l (drop n text) then number_before (n + 2) (drop (n + 2) text)
    else number_before n (drop n text)

unfoldable pub number_at : List ℕ → InputElement
number_at text =
    let n : ℕ = prefix_len is_digit text in
    if nat_lt (value_of (take n text)) (2 ^ 63) then number_of_digits n text
    else Fault NumberTooLarge 0

-- the input element of a string, by the places of its closing quote and of its first bad byte
abbrev pub string_with : Option ℕ → Option ℕ → InputElement
string_with None bad = Fault Unclosed 0
string_with (Some n) None = Token Quoted (n + 2)
string_with (Some n) (Some k) = Fault BadByte (k + 1)

-- behind the opening quote
unfoldable pub string_at : List ℕ → InputElement
string_at bytes = string_with (search ClosingQuote false bytes) (search BadContent false bytes)

-- the input element of a block comment, by the place of the second closing bracket
abbrev pub block_with : Option ℕ → InputElement
block_with None = Fault Unclosed 0
block_with (Some n) = Trivia (n + 5)

-- behind --
unfoldable pub comment_at : List ℕ → InputElement
comment_at bytes =
    if next_are opening_bracket opening_bracket bytes then
    block_with (search Brackets false (drop 2 bytes))
    else Trivia (prefix_len in_line bytes + 2)

unfoldable pub sign_at : ℕ → List ℕ → InputElement
sign_at b after =
    if takes_equals b && next_is_equals after then Token Sign 2
    else if is_sign b then Token Sign 1
    else Fault BadByte 0

unfoldable pub element_at : ℕ → List ℕ → InputElement
element_at b after =
    if is_blank b then Trivia 1
    else if is_letter b then identifier_at (b ∷ after)
    else if is_digit b then number_at (b ∷ after)
    else if b == quote_mark then string_at after
    else if next_are dash dash (b ∷ after) then comment_at (drop 1 after)
    else sign_at b after

abbrev pub first_element : List ℕ → Option InputElement
first_element [] = None
first_element (b ∷ after) = Some (element_at b after)
