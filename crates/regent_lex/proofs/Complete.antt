-- What stands at the front of a text by the tables, the scanner finds.
use Rattle.std.proofs.Common.{◌≡◌, ◌≢◌, ℕ, ◌+◌, ◌≤◌, ◌<◌, ◌^◌, Bool, true, false}
use Rattle.std.proofs.Common.{List, [], ◌∷◌, ◌++◌, length, Option, Some, None, refl}
use Rattle.std.proofs.Common.{ap, ◌∙◌, arith, inl, inr, ◌⊎◌, append_assoc}
use Rattle.std.proofs.Math.Seq.{drop-append-add}
use Rattle.std.specs.List.{list_all, list_any}
use Rattle.std.specs.Map.{lookup}
use Rattle.std.specs.Prelude.{◌&&◌, ◌||◌, ◌==◌, bytes_eq, cond, nat_lt, codes, is_some}
use Rattle.std.proofs.lemmas.Slice.Eq.{bytes_eq-Decides}
use Rattle.std.proofs.lemmas.List.{take_at, drop_at, length-append, append-nil}
use Rattle.std.proofs.lemmas.Bool.{eqb-true, lt-ltb, le-ltb, ne_eqb, false_from_ne_true, and_parts, and_right}
use Rattle.std.proofs.lemmas.Bool.{or_parts}
use Rattle.std.proofs.lemmas.Bool.Decides.{nat_tests}
use Rattle.regent_lex.specs.declared.input_element.InputElement.TheVariants.{Trivia, Token, Fault}
use Rattle.regent_lex.specs.declared.token.TokenKind.{TokenKind}
use Rattle.regent_lex.specs.declared.token.TokenKind.TheVariants.{Quoted, Sign}
use Rattle.regent_lex.specs.declared.fault.LexKind.{LexKind}
use Rattle.regent_lex.specs.declared.fault.LexKind.TheVariants.{BadByte, Unclosed, NumberTooLarge}
use Rattle.regent_lex.specs.declared.search.Wanted.TheVariants.{ClosingQuote, BadContent, Brackets}
use Rattle.regent_lex.specs.Bytes.{is_blank, is_digit, is_letter, is_word_byte, in_line, is_sign}
use Rattle.regent_lex.specs.Bytes.{takes_equals, next_is, next_are}
use Rattle.regent_lex.specs.Tables.{mark_of, mark_table}
use Rattle.regent_lex.specs.Words.{IsIdentifier}
use Rattle.regent_lex.specs.Numbers.{value_of, IsNumeral, HasNoSuffix}
use Rattle.regent_lex.specs.Strings.{IsContent, IsClosed}
use Rattle.regent_lex.specs.Trivia.{has_brackets, IsTrivia, blank, line_comment, block_comment}
use Rattle.regent_lex.specs.Tokens.{IsToken, name, word, number, quoted, sign, two_byte_sign}
use Rattle.regent_lex.specs.Faults.{IsFault, long_name, large_number, behind_number, open_comment}
use Rattle.regent_lex.specs.Faults.{open_string, control_byte, unknown_escape, begins_nothing}
use Rattle.regent_lex.specs.Search.{search}
use Rattle.regent_lex.specs.Scan.{word_or_name, identifier_at, number_before, number_of_digits}
use Rattle.regent_lex.specs.Scan.{number_at, string_with, string_at, block_with, comment_at}
use Rattle.regent_lex.specs.Scan.{sign_at, element_at, first_element}
use Rattle.regent_lex.proofs.Runs.{run_is}
use Rattle.regent_lex.proofs.Contents.{closing_over, bad_over, low_bad, unknown_bad, closed_found}
use Rattle.regent_lex.proofs.Contents.{open_missing}
use Rattle.regent_lex.proofs.Blocks.{ended_found, endless_missing}

-- ---- the classes of bytes are apart

blank_no_letter : (b : ℕ) → is_letter b ≡ true → is_blank b ≡ false
blank_no_letter b h = grind (arith, nat_tests)

blank_no_digit : (b : ℕ) → is_digit b ≡ true → is_blank b ≡ false
blank_no_digit b h = grind (arith, nat_tests)

letter_no_digit : (b : ℕ) → is_digit b ≡ true → is_letter b ≡ false
letter_no_digit b h = grind (arith, nat_tests)

none_at : {A : Type 0} (q : ℕ → Bool) (bytes key : List ℕ) (x : A) (later : Option A) →
    next_is q bytes ≡ true → next_is q key ≡ false → later ≡ None →
    (t : Bool) → bytes_eq bytes key ≡ t → cond t (Some x) later ≡ None
none_at q bytes key x later h here none false is = none
none_at q bytes key x later h here none true is =
    let e : bytes ≡ key = (bytes_eq-Decides bytes key).0 is in
    let f : next_is q key ≡ true = rw (← e) h in
    absurd cc

-- bytes whose first one passes a test aren't found where no first byte passes it
none_found : {A : Type 0} (q : ℕ → Bool) (bytes : List ℕ) → next_is q bytes ≡ true →
    (rows : List (List ℕ × A)) → list_any (λ row. next_is q row.0) rows ≡ false →
    lookup (bytes_eq bytes) rows ≡ None
none_found q bytes h [] e = refl
none_found q bytes h (row ∷ rows) e =
    let both = or_parts (next_is q row.0) (list_any (λ r. next_is q r.0) rows) e in
    none_at q bytes row.0 row.1 (lookup (bytes_eq bytes) rows) h both.0
    (none_found q bytes h rows both.1) (bytes_eq bytes row.0) refl

none_is_none : {A : Type 0} (o : Option A) → o ≡ None → is_some o ≡ true → ⊥
none_is_none None is some = cc
none_is_none (Some x) is some = cc

-- no sign begins with a byte that passes a test which the first bytes of all signs fail
sign_fails : (q : ℕ → Bool) (b : ℕ) (bytes : List ℕ) →
    list_any (λ row. next_is q row.0) mark_table ≡ false →
    is_some (mark_of (b ∷ bytes)) ≡ true → q b ≡ false
unfolding mark_of
sign_fails q b bytes none h =
    false_from_ne_true (q b) (λ p.
    none_is_none (lookup (bytes_eq (b ∷ bytes)) mark_table)
    (none_found q (b ∷ bytes) p mark_table none) h)

sign_isnt : (q : ℕ → Bool) (b : ℕ) → list_any (λ row. next_is q row.0) mark_table ≡ false →
    is_sign b ≡ true → q b ≡ false
sign_isnt q b none h = sign_fails q b [] none h

equals_isnt : (q : ℕ → Bool) (b : ℕ) → list_any (λ row. next_is q row.0) mark_table ≡ false →
    takes_equals b ≡ true → q b ≡ false
equals_isnt q b none h = sign_fails q b (61 ∷ []) none h

-- ---- trivia

-- a comment to the end of its line
line_found : (bytes after : List ℕ) → list_all in_line bytes ≡ true →
    next_is in_line after ≡ false →
    next_are 91 91 (bytes ++ after) ≡ false →
    comment_at (bytes ++ after) ≡ Trivia (length bytes + 2)
unfolding comment_at
line_found bytes after all stops no_block = rw (no_block, run_is in_line bytes after all stops) refl

-- a block comment
block_found : (bytes after : List ℕ) → has_brackets (bytes ++ codes "]") ≡ false →
    comment_at (91 ∷ 91 ∷ (bytes ++ codes "]]") ++ after) ≡ Trivia (length bytes + 1 + 5)
unfolding comment_at
block_found bytes after none =
    let e : (bytes ++ codes "]]") ++ after ≡ bytes ++ 93 ∷ 93 ∷ after =
    append_assoc bytes (codes "]]") after in
    ap (λ ts. block_with (search Brackets false ts)) e ∙ rw (ended_found bytes after none) refl

-- blanks and comments are found
pub trivia_found : (s after : List ℕ) → IsTrivia s after →
    first_element (s ++ after) ≡ Some (Trivia (length s))
unfolding element_at
trivia_found s after (blank h) = rw h refl
trivia_found s after (line_comment {bytes} all stops no_block) =
    ap (λ l. Some l) (line_found bytes after all stops no_block ∙ ap (λ n. Trivia n) (omega arith))
trivia_found s after (block_comment bytes none) =
    ap (λ l. Some l)
    (block_found bytes after none
    ∙ ap (λ n. Trivia n) (omega (arith, length-append bytes (codes "]]"))))

-- ---- words and names

-- an identifier is taken whole
identifier_is : (s after : List ℕ) → IsIdentifier s after →
    identifier_at (s ++ after) ≡ word_or_name s
unfolding identifier_at
identifier_is s after is =
    rw (run_is is_word_byte s after is.all is.longest, take_at s after (length s) refl) refl

letter_first : (b : ℕ) (bs : List ℕ) → is_letter b ≡ true →
    first_element (b ∷ bs) ≡ Some (identifier_at (b ∷ bs))
unfolding element_at
letter_first b bs h = rw (blank_no_letter b h, h) refl

identifier_found : (s after : List ℕ) → IsIdentifier s after →
    first_element (s ++ after) ≡ Some (word_or_name s)
identifier_found [] after is = absurd (let h = is.first in cc)
identifier_found (b ∷ bs) after is = letter_first b (bs ++ after) is.first
    ∙ ap (λ l. Some l) (identifier_is (b ∷ bs) after is)

-- ---- numbers

digit_first : (b : ℕ) (bs : List ℕ) → is_digit b ≡ true →
    first_element (b ∷ bs) ≡ Some (number_at (b ∷ bs))
unfolding element_at
digit_first b bs h = rw (blank_no_digit b h, letter_no_digit b h, h) refl

-- what begins with digits is read as a number
number_first : (digits bs : List ℕ) → next_is is_digit digits ≡ true →
    first_element (digits ++ bs) ≡ Some (number_at (digits ++ bs))
number_first [] bs h = absurd cc
number_first (d ∷ ds) bs h = digit_first d (ds ++ bs) h

-- digits that spell too large a number
large_is : (digits after : List ℕ) → list_all is_digit digits ≡ true →
    next_is is_digit after ≡ false →
    2 ^ 63 ≤ value_of digits → number_at (digits ++ after) ≡ Fault NumberTooLarge 0
unfolding number_at
large_is digits after all ends large =
    let t : nat_lt (value_of digits) (2 ^ 63) ≡ false = le-ltb _ _ large in
    rw (run_is is_digit digits after all ends, take_at digits after (length digits) refl, t) refl

-- digits that spell a small number, by what comes after them
small_is : (digits bs : List ℕ) → list_all is_digit digits ≡ true → next_is is_digit bs ≡ false →
    value_of digits < 2 ^ 63 →
    number_at (digits ++ bs) ≡ number_of_digits (length digits) (digits ++ bs)
unfolding number_at
small_is digits bs all ends small =
    let t : nat_lt (value_of digits) (2 ^ 63) ≡ true = lt-ltb _ _ small in
    rw (run_is is_digit digits bs all ends, take_at digits bs (length digits) refl, t) refl

suffix_none : (digits after : List ℕ) → next_are 76 76 after ≡ false →
    number_of_digits (length digits) (digits ++ after) ≡ number_before (length digits) after
suffix_none digits after h = rw (drop_at digits after (length digits) refl, h) refl

suffix_two : (digits after : List ℕ) →
    number_of_digits (length digits) (digits ++ (76 ∷ 76 ∷ after))
    ≡ number_before (length digits + 2) after
suffix_two digits after =
    rw (
      drop_at digits (76 ∷ 76 ∷ after) (length digits) refl,
      drop-append-add digits (76 ∷ 76 ∷ after) 2,
    ) refl

-- LL is taken where it stands behind the digits
suffix_is : (digits suffix after : List ℕ) →
    HasNoSuffix suffix after ⊎ (suffix ≡ codes "LL") →
    number_of_digits (length digits) (digits ++ (suffix ++ after))
    ≡ number_before (length (digits ++ suffix)) after
suffix_is digits suffix after (inl p) = rw (p.0, append-nil) (suffix_none digits after p.2)
suffix_is digits suffix after (inr p) = rw (p, length-append) (suffix_two digits after)

-- the digits end before the suffix
digits_end : (suffix after : List ℕ) →
    HasNoSuffix suffix after ⊎ (suffix ≡ codes "LL") → next_is is_digit (suffix ++ after) ≡ false
digits_end suffix after (inl p) = rw p.0 p.1
digits_end suffix after (inr p) = rw p refl

-- a number is taken whole
numeral_found : (digits suffix after : List ℕ) → IsNumeral digits suffix after →
    value_of digits < 2 ^ 63 →
    first_element ((digits ++ suffix) ++ after)
    ≡ Some (number_before (length (digits ++ suffix)) after)
numeral_found digits suffix after numeral small =
    rw (append_assoc digits suffix after)
    (number_first digits (suffix ++ after) numeral.first
    ∙ ap (λ l. Some l)
    (small_is digits (suffix ++ after) numeral.all (digits_end suffix after numeral.ends) small
    ∙ suffix_is digits suffix after numeral.ends))

-- ---- strings

quote_first : (bytes : List ℕ) → first_element (34 ∷ bytes) ≡ Some (string_at bytes)
unfolding element_at
quote_first bytes = refl

-- what stands behind a quote is read by the two searches
string_is : (bytes : List ℕ) (o bad : Option ℕ) → search ClosingQuote false bytes ≡ o →
    search BadContent false bytes ≡ bad →
    first_element (34 ∷ bytes) ≡ Some (string_with o bad)
unfolding string_at
string_is bytes o bad closing is = quote_first bytes ∙ rw (closing, is) refl

-- a string is taken whole
quoted_found : (bytes after : List ℕ) → IsContent bytes →
    first_element ((34 ∷ bytes ++ 34 ∷ []) ++ after)
    ≡ Some (Token Quoted (length (34 ∷ bytes ++ 34 ∷ [])))
quoted_found bytes after is =
    ap (λ ts. first_element (34 ∷ ts)) (append_assoc bytes (34 ∷ []) after)
    ∙ string_is (bytes ++ 34 ∷ after) _ _ (closing_over bytes (34 ∷ after) is)
    (bad_over bytes (34 ∷ after) is)
    ∙ ap (λ n. Some (Token Quoted n)) (omega (arith, length-append bytes (34 ∷ [])))

-- the first bad byte of a closed string is told
bad_found : (bytes : List ℕ) (k : ℕ) → IsClosed bytes → search BadContent false bytes ≡ Some k →
    first_element (34 ∷ bytes) ≡ Some (Fault BadByte (k + 1))
bad_found bytes k closed bad = let found = closed_found bytes closed in
    string_is bytes _ _ found.1 bad

-- ---- signs

-- two dashes begin with a sign
dash_is_sign : (b : ℕ) (after : List ℕ) → is_sign b ≡ false → next_are 45 45 (b ∷ after) ≡ true → ⊥
unfolding mark_of
dash_is_sign b after h dashes =
    let e : b ≡ 45 = eqb-true b 45 (and_parts (b == 45) (next_is (λ c. c == 45) after) dashes).0 in
    let f : is_sign b ≡ true = rw e refl in
    cc

-- what is no blank, letter, digit, quote or comment is read as a sign
sign_first : (b : ℕ) (after : List ℕ) → is_blank b ≡ false → is_letter b ≡ false →
    is_digit b ≡ false → (b == 34) ≡ false →
    next_are 45 45 (b ∷ after) ≡ false → first_element (b ∷ after) ≡ Some (sign_at b after)
unfolding element_at
sign_first b after no_blank no_letter no_digit no_quote no_comment =
    rw (no_blank, no_letter, no_digit, no_quote, no_comment) refl

sign_found : (b : ℕ) (after : List ℕ) → is_sign b ≡ true → next_are 45 45 (b ∷ after) ≡ false →
    (takes_equals b && next_is (λ c. c == 61) after) ≡ false →
    first_element (b ∷ after) ≡ Some (Token Sign 1)
unfolding sign_at
sign_found b after h no_comment lone =
    sign_first b after (sign_isnt is_blank b refl h) (sign_isnt is_letter b refl h)
    (sign_isnt is_digit b refl h) (sign_isnt (λ c. c == 34) b refl h) no_comment ∙ rw (lone, h) refl

two_bytes_found : (b : ℕ) (after : List ℕ) → takes_equals b ≡ true →
    first_element (b ∷ 61 ∷ after) ≡ Some (Token Sign 2)
unfolding sign_at
two_bytes_found b after h =
    sign_first b (61 ∷ after) (equals_isnt is_blank b refl h) (equals_isnt is_letter b refl h)
    (equals_isnt is_digit b refl h) (equals_isnt (λ c. c == 34) b refl h) (and_right (b == 45) false refl)
    ∙ rw h refl

nothing_found : (b : ℕ) (after : List ℕ) → is_blank b ≡ false → is_letter b ≡ false →
    is_digit b ≡ false → b ≢ 34 → is_sign b ≡ false →
    (takes_equals b && next_is (λ c. c == 61) after) ≡ false →
    first_element (b ∷ after) ≡ Some (Fault BadByte 0)
unfolding sign_at
nothing_found b after no_blank no_letter no_digit no_quote no_sign lone =
    sign_first b after no_blank no_letter no_digit (ne_eqb b 34 no_quote)
    (false_from_ne_true _ (λ p. dash_is_sign b after no_sign p)) ∙ rw (lone, no_sign) refl

-- ---- the tables

-- the tokens of the table are found
pub token_found : (kind : TokenKind) (s after : List ℕ) → IsToken kind s after →
    first_element (s ++ after) ≡ Some (Token kind (length s))
token_found kind s after (name is r len) = identifier_found s after is ∙ rw (r, le-ltb _ _ len) refl
token_found kind s after (word is r) = identifier_found s after is ∙ rw r refl
token_found kind s after (number {digits} {suffix} numeral small no_letter no_fraction) =
    numeral_found digits suffix after numeral small ∙ rw (no_letter, no_fraction) refl
token_found kind s after (quoted {bytes} is) = quoted_found bytes after is
token_found kind s after (sign {b} h no_comment lone) = sign_found b after h no_comment lone
token_found kind s after (two_byte_sign {b} h) = two_bytes_found b after h

open_comment_found : (bytes : List ℕ) → has_brackets bytes ≡ false →
    first_element (45 ∷ 45 ∷ 91 ∷ 91 ∷ bytes) ≡ Some (Fault Unclosed 0)
unfolding element_at comment_at
open_comment_found bytes none = rw (endless_missing bytes none) refl

-- the faults are found
pub fault_found : (kind : LexKind) (s after : List ℕ) → IsFault kind s after →
    first_element (s ++ after) ≡ Some (Fault kind (length s))
fault_found kind s all (long_name {name} {after} is r long) = identifier_found name after is
    ∙ rw (r, lt-ltb _ _ long) refl
fault_found kind s all (large_number digits after first numeral ends large) =
    number_first digits after first ∙ rw (large_is digits after numeral ends large) refl
fault_found kind s after (behind_number {digits} {suffix} numeral small h) =
    numeral_found digits suffix after numeral small ∙ rw h refl
fault_found kind s all (open_comment {bytes} none) = open_comment_found bytes none
fault_found kind s all (open_string {bytes} is) =
    string_is bytes None _ (open_missing bytes is) refl
fault_found kind s all (control_byte {b} {bytes} {after} is lt closed) =
    bad_found (bytes ++ b ∷ after) (length bytes) closed (low_bad bytes b after is lt)
    ∙ ap (λ n. Some (Fault BadByte n)) (omega arith)
fault_found kind s all (unknown_escape {c} {bytes} {after} is strange closed) =
    ap (λ ts. first_element (34 ∷ ts)) (append_assoc bytes (92 ∷ []) (c ∷ after))
    ∙ bad_found (bytes ++ 92 ∷ c ∷ after) (length bytes + 1) closed
    (unknown_bad bytes c after is strange)
    ∙ ap (λ n. Some (Fault BadByte n)) (omega (arith, length-append bytes (92 ∷ [])))
fault_found kind s all
    (begins_nothing {b} {after} no_blank no_letter no_digit no_quote no_sign lone) =
    nothing_found b after no_blank no_letter no_digit no_quote no_sign lone
