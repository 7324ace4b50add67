-- What the scanner finds at the front of a text stands there by the tables.
use Rattle.std.proofs.Common.{◌≡◌, ◌≢◌, ℕ, zero, suc, ◌+◌, ◌≤◌, ◌<◌, ◌^◌, Bool, true, false, cond}
use Rattle.std.proofs.Common.{List, [], ◌∷◌, ◌++◌, length, take, drop, Option, Some, None, refl}
use Rattle.std.proofs.Common.{sym, ap, subst, ◌∙◌, arith, inl, inr, append_assoc}
use Rattle.std.specs.List.{prefix_len, list_all}
use Rattle.std.specs.Prelude.{◌&&◌, ◌||◌, ◌==◌, nat_lt, codes, IfSome}
use Rattle.std.proofs.lemmas.List.{take-append-drop, take_at, drop_at, length-append, append-nil}
use Rattle.std.proofs.lemmas.List.Folds.{length-prefix_len}
use Rattle.std.proofs.lemmas.Bool.{ltb-true, ltb-false, eqb-true, eqb-false, and_parts}
use Rattle.regent_lex.specs.declared.input_element.InputElement.{InputElement}
use Rattle.regent_lex.specs.declared.input_element.InputElement.TheVariants.{Trivia, Token, Fault}
use Rattle.regent_lex.specs.declared.token.TokenKind.TheVariants.{Name, Word, Number, Quoted, Sign}
use Rattle.regent_lex.specs.declared.fault.LexKind.TheVariants.{BadByte, NumberTooLarge}
use Rattle.regent_lex.specs.declared.fault.LexKind.TheVariants.{NameTooLong}
use Rattle.regent_lex.specs.declared.search.Wanted.TheVariants.{ClosingQuote, BadContent, Brackets}
use Rattle.regent_lex.specs.Bytes.{is_blank, is_digit, is_letter, is_word_byte, in_line, is_sign}
use Rattle.regent_lex.specs.Bytes.{takes_equals, next_is, next_are}
use Rattle.regent_lex.specs.Words.{is_reserved, IsIdentifier}
use Rattle.regent_lex.specs.Numbers.{value_of, IsNumeral, is_fraction}
use Rattle.regent_lex.specs.Strings.{IsClosed}
use Rattle.regent_lex.specs.Trivia.{IsTrivia, blank, line_comment, block_comment}
use Rattle.regent_lex.specs.Tokens.{IsToken, name, word, number, quoted, sign, two_byte_sign}
use Rattle.regent_lex.specs.Faults.{IsFault, long_name, large_number, behind_number, open_comment}
use Rattle.regent_lex.specs.Faults.{open_string, control_byte, unknown_escape, begins_nothing}
use Rattle.regent_lex.specs.Begins.{Begins}
use Rattle.regent_lex.specs.Search.{search}
use Rattle.regent_lex.specs.Scan.{identifier_at, number_before, number_of_digits}
use Rattle.regent_lex.specs.Scan.{number_at, string_with, string_at, block_with, comment_at}
use Rattle.regent_lex.specs.Scan.{sign_at, element_at, first_element}
use Rattle.regent_lex.proofs.Runs.{run_all, run_ends, run_begins}
use Rattle.regent_lex.proofs.Contents.{Front, closes, low, unknown, text_ends, half_escape, front}
use Rattle.regent_lex.proofs.Contents.{closing_over, bad_over, low_bad, unknown_bad, found_closed}
use Rattle.regent_lex.proofs.Contents.{missing_open}
use Rattle.regent_lex.proofs.Blocks.{Block, ended, endless, block, ended_found, endless_missing}
use Rattle.regent_lex.proofs.Blocks.{next_are_is}

-- the first byte of a front is that of the text
first_of : (q : ℕ → Bool) (n : ℕ) (text : List ℕ) → 0 < n → next_is q text ≡ true →
    next_is q (take n text) ≡ true
first_of q zero text lt h = absurd (omega arith)
first_of q (suc n) [] lt h = h
first_of q (suc n) (b ∷ bs) lt h = h

letter_is_word_byte : (b : ℕ) → is_letter b ≡ true → is_word_byte b ≡ true
letter_is_word_byte b h = rw h refl

letters_are_word_bytes : (text : List ℕ) → next_is is_letter text ≡ true →
    next_is is_word_byte text ≡ true
letters_are_word_bytes [] h = h
letters_are_word_bytes (b ∷ bs) h = letter_is_word_byte b h

-- a fact of no bytes and the text
at_first_byte : (P : List ℕ → List ℕ → Type 0) (text : List ℕ) → P [] text →
    P (take 0 text) (drop 0 text)
at_first_byte P [] p = p
at_first_byte P (b ∷ bs) p = p

-- a front is no longer than the text
within : (s after : List ℕ) → length s ≤ length (s ++ after)
within s after = omega (arith, length-append s after)

-- ---- words and names

word_or_name_begins : (text s after : List ℕ) → text ≡ s ++ after → 0 < length s →
    IsIdentifier s after →
    (b c : Bool) → is_reserved s ≡ b → nat_lt 64 (length s) ≡ c →
    Begins (cond b (Token Word (length s)) (cond c (Fault NameTooLong 0) (Token Name (length s))))
    text
word_or_name_begins text s after is lt spelt true c r l =
    rw (is, take_at s after (length s) refl, drop_at s after (length s) refl)
    (lt, within s after, word spelt r)
word_or_name_begins text s after is lt spelt false true r l =
    rw is (
      omega arith,
      at_first_byte (IsFault NameTooLong) (s ++ after) (long_name spelt r (ltb-true _ _ l)),
    )
word_or_name_begins text s after is lt spelt false false r l =
    rw (is, take_at s after (length s) refl, drop_at s after (length s) refl)
    (lt, within s after, name spelt r (ltb-false _ _ l))

-- words and names, from the first letter
identifier_begins : (text : List ℕ) → next_is is_letter text ≡ true →
    Begins (identifier_at text) text
unfolding identifier_at
identifier_begins text h =
    let n : ℕ = prefix_len is_word_byte text in
    let lt : 0 < n = run_begins is_word_byte text (letters_are_word_bytes text h) in
    let len : length (take n text) ≡ n = length-prefix_len is_word_byte text in
    word_or_name_begins text (take n text) (drop n text) (sym (take-append-drop n text))
    (omega arith)
    (record {
      first = first_of is_letter n text lt h;
      all = run_all is_word_byte text;
      longest = run_ends is_word_byte text;
    }) _ _ refl refl

-- ---- numbers

-- a number by what comes after it
number_before_begins : (text digits suffix after : List ℕ) → text ≡ (digits ++ suffix) ++ after →
    0 < length (digits ++ suffix) → IsNumeral digits suffix after → value_of digits < 2 ^ 63 →
    (b c : Bool) → next_is is_letter after ≡ b → is_fraction after ≡ c →
    Begins (cond (b || c) (Fault BadByte (length (digits ++ suffix)))
    (Token Number (length (digits ++ suffix)))) text
number_before_begins text digits suffix after is lt numeral small true c l f =
    rw (is, take_at (digits ++ suffix) after _ refl, drop_at (digits ++ suffix) after _ refl)
    (within (digits ++ suffix) after, behind_number numeral small (rw l refl))
number_before_begins text digits suffix after is lt numeral small false true l f =
    rw (is, take_at (digits ++ suffix) after _ refl, drop_at (digits ++ suffix) after _ refl)
    (within (digits ++ suffix) after, behind_number numeral small (rw (l, f) refl))
number_before_begins text digits suffix after is lt numeral small false false l f =
    rw (is, take_at (digits ++ suffix) after _ refl, drop_at (digits ++ suffix) after _ refl)
    (lt, within (digits ++ suffix) after, number numeral small l f)

-- the same by the number of its bytes
numeral_begins : (text digits suffix after : List ℕ) → text ≡ (digits ++ suffix) ++ after →
    0 < length (digits ++ suffix) → IsNumeral digits suffix after → value_of digits < 2 ^ 63 →
    (m : ℕ) → length (digits ++ suffix) ≡ m → Begins (number_before m (drop m text)) text
numeral_begins text digits suffix after is lt numeral small m len =
    let behind : drop m text ≡ after = rw is (drop_at (digits ++ suffix) after m len) in
    rw (behind, ← len)
    (number_before_begins text digits suffix after is lt numeral small _ _ refl refl)

-- a number by its suffix
number_of_digits_begins : (text : List ℕ) (n : ℕ) → n ≡ prefix_len is_digit text → 0 < n →
    next_is is_digit text ≡ true → value_of (take n text) < 2 ^ 63 →
    (b : Bool) → next_are 76 76 (drop n text) ≡ b →
    Begins (cond b (number_before (n + 2) (drop (n + 2) text)) (number_before n (drop n text))) text
number_of_digits_begins text n n-is lt h small true l =
    let after = next_are_is 76 76 (drop n text) l in
    let len : length (take n text) ≡ n = rw n-is (length-prefix_len is_digit text) in
    let first : next_is is_digit (take n text) ≡ true = first_of is_digit n text lt h in
    let all : list_all is_digit (take n text) ≡ true = rw n-is (run_all is_digit text) in
    let parts : text ≡ (take n text ++ codes "LL") ++ after.0 =
    sym (append_assoc (take n text) (codes "LL") after.0
    ∙ ap (λ ts. take n text ++ ts) (sym after.1) ∙ take-append-drop n text) in
    let whole : length (take n text ++ codes "LL") ≡ n + 2 =
    length-append (take n text) (codes "LL") ∙ ap (λ k. k + 2) len in
    numeral_begins text (take n text) (codes "LL") after.0 parts (omega arith)
    (record { first = first; all = all; ends = inr refl }) small (n + 2) whole
number_of_digits_begins text n n-is lt h small false l =
    let len : length (take n text) ≡ n = rw n-is (length-prefix_len is_digit text) in
    let first : next_is is_digit (take n text) ≡ true = first_of is_digit n text lt h in
    let all : list_all is_digit (take n text) ≡ true = rw n-is (run_all is_digit text) in
    let stops : next_is is_digit (drop n text) ≡ false = rw n-is (run_ends is_digit text) in
    let parts : text ≡ (take n text ++ []) ++ drop n text =
    rw append-nil (sym (take-append-drop n text)) in
    let whole : length (take n text ++ []) ≡ n = rw append-nil len in
    numeral_begins text (take n text) [] (drop n text) parts (omega arith)
    (record { first = first; all = all; ends = inl (refl, stops, l) }) small n whole

-- a number by its value
number_at_begins : (text : List ℕ) (n : ℕ) → n ≡ prefix_len is_digit text → 0 < n →
    next_is is_digit text ≡ true →
    (b : Bool) → nat_lt (value_of (take n text)) (2 ^ 63) ≡ b →
    Begins (cond b (number_of_digits n text) (Fault NumberTooLarge 0)) text
number_at_begins text n n-is lt h true small =
    number_of_digits_begins text n n-is lt h (ltb-true _ _ small) _ refl
number_at_begins text n n-is lt h false large =
    let first : next_is is_digit (take n text) ≡ true = first_of is_digit n text lt h in
    let all : list_all is_digit (take n text) ≡ true = rw n-is (run_all is_digit text) in
    let stops : next_is is_digit (drop n text) ≡ false = rw n-is (run_ends is_digit text) in (
      omega arith,
      at_first_byte (IsFault NumberTooLarge) text
          (subst (λ (t : List ℕ). IsFault NumberTooLarge [] t) (take-append-drop n text)
          (large_number (take n text) (drop n text) first all stops (ltb-false _ _ large))),
    )

-- numbers, from the first digit
number_begins : (text : List ℕ) → next_is is_digit text ≡ true → Begins (number_at text) text
unfolding number_at
number_begins text h =
    number_at_begins text (prefix_len is_digit text) refl (run_begins is_digit text h) h _ refl

-- ---- strings

-- a token at the front of a text
token_begins : (kind : _) (s after : List ℕ) (n : ℕ) → length s ≡ n → 0 < n → IsToken kind s after →
    Begins (Token kind n) (s ++ after)
token_begins kind s after n len lt is =
    rw (← len, take_at s after (length s) refl, drop_at s after (length s) refl)
    (omega arith, within s after, is)

-- a blank or a comment at the front of a text
trivia_begins : (s after : List ℕ) (n : ℕ) → length s ≡ n → 0 < n → IsTrivia s after →
    Begins (Trivia n) (s ++ after)
trivia_begins s after n len lt is =
    rw (← len, take_at s after (length s) refl, drop_at s after (length s) refl)
    (omega arith, within s after, is)

-- a fault behind the front of a text
fault_begins : (kind : _) (s after : List ℕ) (n : ℕ) → length s ≡ n → IsFault kind s after →
    Begins (Fault kind n) (s ++ after)
fault_begins kind s after n len is =
    rw (← len, take_at s after (length s) refl, drop_at s after (length s) refl)
    (within s after, is)

-- a string with a bad byte: it is told at that byte where the string is closed
bad_begins : (bytes s after : List ℕ) (k : ℕ) → length s ≡ k + 1 → 34 ∷ bytes ≡ s ++ after →
    (IsClosed bytes → IsFault BadByte s after) → (o : Option ℕ) →
    search ClosingQuote false bytes ≡ o →
    Begins (string_with o (Some k)) (34 ∷ bytes)
bad_begins bytes s after k len is fault None h = (omega arith, open_string (missing_open bytes h))
bad_begins bytes s after k len is fault (Some n) h =
    subst (λ (text : List ℕ). Begins (Fault BadByte (k + 1)) text) (sym is)
    (fault_begins BadByte s after (k + 1) len (fault (found_closed bytes n h)))

-- a string that ends with the text
open_begins : (bytes : List ℕ) (bad : Option ℕ) → search ClosingQuote false bytes ≡ None →
    Begins (string_with (search ClosingQuote false bytes) bad) (34 ∷ bytes)
open_begins bytes bad h = rw h (omega arith, open_string (missing_open bytes h))

-- strings by what stands behind the quote
string_front_begins : (bytes : List ℕ) → Front bytes →
    Begins (string_with (search ClosingQuote false bytes) (search BadContent false bytes))
    (34 ∷ bytes)
string_front_begins bytes (closes {bytes = content} is after) =
    rw (closing_over content (34 ∷ after) is, bad_over content (34 ∷ after) is)
    (let e : (34 ∷ content ++ 34 ∷ []) ++ after
    ≡ 34 ∷ content ++ 34 ∷ after = ap (λ ts. 34 ∷ ts) (append_assoc content (34 ∷ []) after) in
    subst (λ (text : List ℕ). Begins (Token Quoted (length content + 0 + 2)) text) e
    (token_begins Quoted (34 ∷ content ++ 34 ∷ []) after (length content + 0 + 2)
    (omega (arith, length-append content (34 ∷ []))) (omega arith) (quoted is)))
string_front_begins bytes (low {bytes = content} is b after lt) =
    let bad : search BadContent false (content ++ b ∷ after) ≡ Some (length content) =
    low_bad content b after is lt in
    rw bad
    (bad_begins (content ++ b ∷ after) (34 ∷ content) (b ∷ after) (length content)
    (omega arith) refl
    (λ closed. control_byte is lt closed) _ refl)
string_front_begins bytes (unknown {bytes = content} is c after strange) =
    let bad : search BadContent false (content ++ 92 ∷ c ∷ after) ≡ Some (length content + 1) =
    unknown_bad content c after is strange in
    rw bad
    (bad_begins (content ++ 92 ∷ c ∷ after) (34 ∷ content ++ 92 ∷ []) (c ∷ after)
    (length content + 1)
    (omega (arith, length-append content (92 ∷ [])))
    (ap (λ ts. 34 ∷ ts) (sym (append_assoc content (92 ∷ []) (c ∷ after))))
    (λ closed. unknown_escape is strange closed) _ refl)
string_front_begins bytes (text_ends is) =
    open_begins bytes _
    (ap (λ ts. search ClosingQuote false ts) (sym (append-nil bytes)) ∙ closing_over bytes [] is)
string_front_begins bytes (half_escape {bytes = content} is) =
    open_begins (content ++ 92 ∷ []) _ (closing_over content (92 ∷ []) is)

-- strings, from the quote
string_begins : (bytes : List ℕ) → Begins (string_at bytes) (34 ∷ bytes)
unfolding string_at
string_begins bytes = string_front_begins bytes (front bytes)

-- ---- comments

-- block comments, by whether they end
block_begins : (bytes : List ℕ) → Block bytes →
    Begins (block_with (search Brackets false bytes)) (45 ∷ 45 ∷ 91 ∷ 91 ∷ bytes)
block_begins text (ended bytes after none) =
    rw (ended_found bytes after none)
    (let e : (codes "--[[" ++ (bytes ++ codes "]]")) ++ after
    ≡ 45 ∷ 45 ∷ 91 ∷ 91 ∷ bytes ++ 93 ∷ 93 ∷ after =
    ap (λ ts. 45 ∷ 45 ∷ 91 ∷ 91 ∷ ts) (append_assoc bytes (codes "]]") after) in
    subst (λ (text : List ℕ). Begins (Trivia (length bytes + 1 + 5)) text) e
    (trivia_begins (codes "--[[" ++ (bytes ++ codes "]]")) after (length bytes + 1 + 5)
    (omega (arith, length-append bytes (codes "]]"))) (omega arith) (block_comment bytes none)))
block_begins text (endless none) = rw (endless_missing text none) (omega arith, open_comment none)

-- comments to the end of their line
line_begins : (bytes : List ℕ) → next_are 91 91 bytes ≡ false →
    Begins (Trivia (prefix_len in_line bytes + 2)) (45 ∷ 45 ∷ bytes)
line_begins bytes no_block =
    let n : ℕ = prefix_len in_line bytes in
    let e : take n bytes ++ drop n bytes ≡ bytes = take-append-drop n bytes in
    let len : length (take n bytes) ≡ n = length-prefix_len in_line bytes in
    subst (λ (ts : List ℕ). Begins (Trivia (n + 2)) (45 ∷ 45 ∷ ts)) e
    (trivia_begins (45 ∷ 45 ∷ take n bytes) (drop n bytes) (n + 2) (omega arith) (omega arith)
    (line_comment (run_all in_line bytes) (run_ends in_line bytes) (rw e no_block)))

comment_on : (bytes : List ℕ) (t : Bool) → next_are 91 91 bytes ≡ t →
    Begins (cond t (block_with (search Brackets false (drop 2 bytes)))
    (Trivia (prefix_len in_line bytes + 2))) (45 ∷ 45 ∷ bytes)
comment_on bytes true h = let after = next_are_is 91 91 bytes h in
    rw after.1 (block_begins after.0 (block after.0))
comment_on bytes false h = line_begins bytes h

-- comments, from the dashes
comment_begins : (bytes : List ℕ) → Begins (comment_at bytes) (45 ∷ 45 ∷ bytes)
unfolding comment_at
comment_begins bytes = comment_on bytes _ refl

-- ---- signs

-- signs, and bytes that begin nothing
sign_begins : (b : ℕ) (after : List ℕ) → is_blank b ≡ false → is_letter b ≡ false →
    is_digit b ≡ false → b ≢ 34 →
    next_are 45 45 (b ∷ after) ≡ false →
    (p q : Bool) → (takes_equals b && next_is (λ c. c == 61) after) ≡ p → is_sign b ≡ q →
    Begins (cond p (Token Sign 2) (cond q (Token Sign 1) (Fault BadByte 0))) (b ∷ after)
sign_begins b [] no_blank no_letter no_digit no_quote no_comment true q p-is q-is =
    absurd (let e = (and_parts (takes_equals b) false p-is).1 in cc)
sign_begins b (c ∷ after) no_blank no_letter no_digit no_quote no_comment true q p-is q-is =
    let both = and_parts (takes_equals b) (c == 61) p-is in
    let e : c ≡ 61 = eqb-true c 61 both.1 in
    rw e (omega arith, omega arith, two_byte_sign both.0)
sign_begins b after no_blank no_letter no_digit no_quote no_comment false true p-is q-is =
    (omega arith, omega arith, sign q-is no_comment p-is)
sign_begins b after no_blank no_letter no_digit no_quote no_comment false false p-is q-is =
    (omega arith, begins_nothing no_blank no_letter no_digit no_quote q-is p-is)

-- ---- any front of a text

dashes_begin : (b : ℕ) (after : List ℕ) → next_are 45 45 (b ∷ after) ≡ true →
    Begins (comment_at (drop 1 after)) (b ∷ after)
dashes_begin b after h =
    let found = next_are_is 45 45 (b ∷ after) h in
    let p : b ≡ 45 = let e = found.1 in cc in
    let q : after ≡ 45 ∷ found.0 = let e = found.1 in cc in
    rw (p, q) (comment_begins found.0)

quote_begins : (b : ℕ) (after : List ℕ) → b ≡ 34 → Begins (string_at after) (b ∷ after)
quote_begins b after h = rw h (string_begins after)

-- any first byte
element_on : (b : ℕ) (after : List ℕ) (space letter digit quote dashes : Bool) →
    is_blank b ≡ space → is_letter b ≡ letter → is_digit b ≡ digit → (b == 34) ≡ quote →
    next_are 45 45 (b ∷ after) ≡ dashes →
    Begins (cond space (Trivia 1)
    (cond letter (identifier_at (b ∷ after))
    (cond digit (number_at (b ∷ after))
    (cond quote (string_at after) (cond dashes (comment_at (drop 1 after)) (sign_at b after))))))
    (b ∷ after)
unfolding sign_at
element_on b after true l d q s bh lh dh qh sh = (omega arith, omega arith, blank bh)
element_on b after false true d q s bh lh dh qh sh = identifier_begins (b ∷ after) lh
element_on b after false false true q s bh lh dh qh sh = number_begins (b ∷ after) dh
element_on b after false false false true s bh lh dh qh sh = quote_begins b after (eqb-true b 34 qh)
element_on b after false false false false true bh lh dh qh sh = dashes_begin b after sh
element_on b after false false false false false bh lh dh qh sh =
    sign_begins b after bh lh dh (eqb-false b 34 qh) sh _ _ refl refl

-- what the scanner finds at a first byte stands there
pub element_begins : (b : ℕ) (after : List ℕ) → Begins (element_at b after) (b ∷ after)
unfolding element_at
element_begins b after = element_on b after _ _ _ _ _ refl refl refl refl refl

-- what the scanner finds stands there
pub first_begins : (text : List ℕ) (o : Option InputElement) → o ≡ first_element text →
    IfSome o (λ input_element. Begins input_element text)
first_begins [] o h = rw h tt
first_begins (b ∷ after) o h = rw h (element_begins b after)
