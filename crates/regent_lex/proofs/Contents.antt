-- Strings: the search for the closing quote and for a bad byte, at each form of what may stand
-- behind an opening quote.
use Rattle.std.proofs.Common.{◌≡◌, ◌≢◌, ℕ, ◌+◌, ◌<◌, ◌≤◌, Bool, true, false, List}
use Rattle.std.proofs.Common.{[], ◌∷◌, ◌++◌, length, Option, Some, None, refl, sym, ap, ◌∙◌, arith}
use Rattle.std.specs.Prelude.{◌==◌, nat_lt}
use Rattle.std.proofs.lemmas.Bool.{eqb-true, eqb-false, ltb-true, ltb-false, ne_eqb, le-ltb, lt-ltb}
use Rattle.std.proofs.lemmas.Bool.{false_from_ne_true}
use Rattle.regent_lex.specs.declared.search.Wanted.TheVariants.{ClosingQuote, BadContent}
use Rattle.regent_lex.specs.Strings.{is_escape, IsContent, no_bytes, escape, itself, IsClosed}
use Rattle.regent_lex.specs.Strings.{quote, pair, single}
use Rattle.regent_lex.specs.Search.{further, search}

-- further and further on
pub further_further : (m n : ℕ) (o : Option ℕ) → further m (further n o) ≡ further (m + n) o
further_further m n None = refl
further_further m n (Some k) = ap (λ j. Some j) (omega arith)

-- no further on
pub further_none : (o : Option ℕ) → further 0 o ≡ o
further_none None = refl
further_none (Some k) = ap (λ j. Some j) (omega arith)

-- what went further was found before
pub further_is : (m n : ℕ) (o : Option ℕ) → further m o ≡ Some n → (k : ℕ) × (o ≡ Some k)
further_is m n None h = absurd cc
further_is m n (Some k) h = (k, refl)

-- ---- what may stand behind an opening quote, up to the first byte that is no content

pub data Front : List ℕ → Type 0 where
  closes : {bytes : List ℕ} → IsContent bytes → (after : List ℕ) → Front (bytes ++ 34 ∷ after)
  low : {bytes : List ℕ} → IsContent bytes → (b : ℕ) (after : List ℕ) → b < 32 →
      Front (bytes ++ b ∷ after)
  unknown : {bytes : List ℕ} → IsContent bytes → (c : ℕ) (after : List ℕ) → is_escape c ≡ false →
      Front (bytes ++ 92 ∷ c ∷ after)
  text_ends : {bytes : List ℕ} → IsContent bytes → Front bytes
  half_escape : {bytes : List ℕ} → IsContent bytes → Front (bytes ++ 92 ∷ [])

-- one more byte before a front, which stands for itself
behind_itself : (b : ℕ) (bytes : List ℕ) → 32 ≤ b → b ≢ 34 → b ≢ 92 → Front bytes →
    Front (b ∷ bytes)
behind_itself b text high no_quote no_slash (closes content after) =
    closes (itself high no_quote no_slash content) after
behind_itself b text high no_quote no_slash (low content c after lt) =
    low (itself high no_quote no_slash content) c after lt
behind_itself b text high no_quote no_slash (unknown content c after bad) =
    unknown (itself high no_quote no_slash content) c after bad
behind_itself b text high no_quote no_slash (text_ends content) =
    text_ends (itself high no_quote no_slash content)
behind_itself b text high no_quote no_slash (half_escape content) =
    half_escape (itself high no_quote no_slash content)

-- an escape before a front
behind_escape : (c : ℕ) (bytes : List ℕ) → is_escape c ≡ true → Front bytes →
    Front (92 ∷ c ∷ bytes)
behind_escape c text good (closes content after) = closes (escape good content) after
behind_escape c text good (low content b after lt) = low (escape good content) b after lt
behind_escape c text good (unknown content b after bad) = unknown (escape good content) b after bad
behind_escape c text good (text_ends content) = text_ends (escape good content)
behind_escape c text good (half_escape content) = half_escape (escape good content)

last_front : (b : ℕ) (is_quote is_slash is_low : Bool) → (b == 34) ≡ is_quote →
    (b == 92) ≡ is_slash → nat_lt b 32 ≡ is_low → Front (b ∷ [])
last_front b true is_slash is_low q s l = rw (eqb-true b 34 q) (closes no_bytes [])
last_front b false true is_low q s l = rw (eqb-true b 92 s) (half_escape no_bytes)
last_front b false false true q s l = low no_bytes b [] (ltb-true b 32 l)
last_front b false false false q s l =
    text_ends (itself (ltb-false b 32 l) (eqb-false b 34 q) (eqb-false b 92 s) no_bytes)

pair_front : (b c : ℕ) (rest : List ℕ) → Front rest → Front (c ∷ rest) →
    (is_quote is_slash is_low good : Bool) → (b == 34) ≡ is_quote → (b == 92) ≡ is_slash →
    nat_lt b 32 ≡ is_low → is_escape c ≡ good → Front (b ∷ c ∷ rest)
pair_front b c rest two one true is_slash is_low good q s l g =
    rw (eqb-true b 34 q) (closes no_bytes (c ∷ rest))
pair_front b c rest two one false true is_low true q s l g =
    rw (eqb-true b 92 s) (behind_escape c rest g two)
pair_front b c rest two one false true is_low false q s l g =
    rw (eqb-true b 92 s) (unknown no_bytes c rest g)
pair_front b c rest two one false false true good q s l g =
    low no_bytes b (c ∷ rest) (ltb-true b 32 l)
pair_front b c rest two one false false false good q s l g =
    behind_itself b (c ∷ rest) (ltb-false b 32 l) (eqb-false b 34 q) (eqb-false b 92 s) one

-- each list of bytes has a front
pub front : (bytes : List ℕ) → Front bytes
front [] = text_ends no_bytes
front (b ∷ []) = last_front b _ _ _ refl refl refl
front (b ∷ c ∷ rest) =
    pair_front b c rest (front rest) (front (c ∷ rest)) _ _ _ _ refl refl refl refl

-- ---- the searches pass over content

-- an escape is no line feed
escape_no_feed : (c : ℕ) → is_escape c ≡ true → (c == 10) ≡ false
escape_no_feed c h =
    false_from_ne_true (c == 10)
    (λ e. let is : c ≡ 10 = eqb-true c 10 e in let f = rw is at h in cc)

-- the search for the closing quote passes over content
pub closing_over : (bytes after : List ℕ) → IsContent bytes →
    search ClosingQuote false (bytes ++ after)
    ≡ further (length bytes) (search ClosingQuote false after)
closing_over bytes after no_bytes = sym (further_none (search ClosingQuote false after))
closing_over bytes after (escape {c} {bytes = rest} good content) =
    let feed : (c == 10) ≡ false = escape_no_feed c good in
    let later = closing_over rest after content in
    rw (feed, later, further_further, further_further)
    (ap (λ n. further n (search ClosingQuote false after)) (omega arith))
closing_over bytes after (itself {b} {bytes = rest} high no_quote no_slash content) =
    let feed : (b == 10) ≡ false = ne_eqb b 10 (omega arith) in
    let quote : (b == 34) ≡ false = ne_eqb b 34 no_quote in
    let slash : (b == 92) ≡ false = ne_eqb b 92 no_slash in
    let later = closing_over rest after content in
    rw (feed, quote, slash, later, further_further)
    (ap (λ n. further n (search ClosingQuote false after)) (omega arith))

-- the search for a bad byte passes over content
pub bad_over : (bytes after : List ℕ) → IsContent bytes →
    search BadContent false (bytes ++ after)
    ≡ further (length bytes) (search BadContent false after)
bad_over bytes after no_bytes = sym (further_none (search BadContent false after))
bad_over bytes after (escape {c} {bytes = rest} good content) =
    let later = bad_over rest after content in
    rw (good, later, further_further, further_further)
    (ap (λ n. further n (search BadContent false after)) (omega arith))
bad_over bytes after (itself {b} {bytes = rest} high no_quote no_slash content) =
    let is_low : nat_lt b 32 ≡ false = le-ltb b 32 high in
    let quote : (b == 34) ≡ false = ne_eqb b 34 no_quote in
    let slash : (b == 92) ≡ false = ne_eqb b 92 no_slash in
    let later = bad_over rest after content in
    rw (quote, is_low, slash, later, further_further)
    (ap (λ n. further n (search BadContent false after)) (omega arith))

-- ---- a closing quote is found where there is one

-- the closing quote of what is closed is found
pub closed_found : (bytes : List ℕ) → IsClosed bytes →
    (n : ℕ) × (search ClosingQuote false bytes ≡ Some n)
closed_found bytes quote = (0, refl)
closed_found bytes (pair {c} {bytes = rest} no_feed closed) =
    let feed : (c == 10) ≡ false = ne_eqb c 10 no_feed in
    let later = closed_found rest closed in
    (1 + (1 + later.0), rw (feed, later.1) refl)
closed_found bytes (single {b} {bytes = rest} no_feed no_quote no_slash closed) =
    let feed : (b == 10) ≡ false = ne_eqb b 10 no_feed in
    let quote : (b == 34) ≡ false = ne_eqb b 34 no_quote in
    let slash : (b == 92) ≡ false = ne_eqb b 92 no_slash in
    let later = closed_found rest closed in
    (1 + later.0, rw (feed, quote, slash, later.1) refl)

-- with a backslash before the bytes, or without
abbrev IsClosedBehind : Bool → List ℕ → Type 0
IsClosedBehind true bytes = IsClosed (92 ∷ bytes)
IsClosedBehind false bytes = IsClosed bytes

found_on : (b n : ℕ) (rest : List ℕ) (taken is_feed is_quote is_slash : Bool) →
    (b == 10) ≡ is_feed → (b == 34) ≡ is_quote → (b == 92) ≡ is_slash →
    ((state : Bool) (k : ℕ) → search ClosingQuote state rest ≡ Some k → IsClosedBehind state rest) →
    search ClosingQuote taken (b ∷ rest) ≡ Some n → IsClosedBehind taken (b ∷ rest)
found_on b n rest taken true q s f-is q-is s-is later h = absurd (let e = rw f-is at h in cc)
found_on b n rest true false q s f-is q-is s-is later h =
    let e = rw f-is at h in
    let k = further_is 1 n (search ClosingQuote false rest) e in
    pair (eqb-false b 10 f-is) (later false k.0 k.1)
found_on b n rest false false true s f-is q-is s-is later h = rw (eqb-true b 34 q-is) quote
found_on b n rest false false false true f-is q-is s-is later h =
    let e = rw (f-is, q-is, s-is) at h in
    let k = further_is 1 n (search ClosingQuote true rest) e in
    rw (eqb-true b 92 s-is) (later true k.0 k.1)
found_on b n rest false false false false f-is q-is s-is later h =
    let e = rw (f-is, q-is, s-is) at h in
    let k = further_is 1 n (search ClosingQuote false rest) e in
    single (eqb-false b 10 f-is) (eqb-false b 34 q-is) (eqb-false b 92 s-is) (later false k.0 k.1)

-- what has a closing quote found is closed, by induction with a backslash before it or without
found_behind : (bytes : List ℕ) (taken : Bool) (n : ℕ) → search ClosingQuote taken bytes ≡ Some n →
    IsClosedBehind taken bytes
found_behind [] taken n h = absurd cc
found_behind (b ∷ rest) taken n h =
    found_on b n rest taken _ _ _ refl refl refl (λ state k. found_behind rest state k) h

-- what has a closing quote found is closed
pub found_closed : (bytes : List ℕ) (n : ℕ) → search ClosingQuote false bytes ≡ Some n →
    IsClosed bytes
found_closed bytes n h = found_behind bytes false n h

missing_on : (bytes : List ℕ) → (IsClosed bytes → ⊥) → (o : Option ℕ) →
    search ClosingQuote false bytes ≡ o → o ≡ None
missing_on bytes h None is = refl
missing_on bytes h (Some n) is = absurd (h (found_closed bytes n is))

-- what is not closed has no closing quote found
pub open_missing : (bytes : List ℕ) → (IsClosed bytes → ⊥) → search ClosingQuote false bytes ≡ None
open_missing bytes h = missing_on bytes h (search ClosingQuote false bytes) refl

-- what has no closing quote found is not closed
pub missing_open : (bytes : List ℕ) → search ClosingQuote false bytes ≡ None → IsClosed bytes → ⊥
missing_open bytes h closed = let found = closed_found bytes closed in let e = found.1 in absurd cc

-- ---- the first bad byte is found

-- a byte below 32 behind content is found
pub low_bad : (bytes : List ℕ) (b : ℕ) (after : List ℕ) → IsContent bytes → b < 32 →
    search BadContent false (bytes ++ b ∷ after) ≡ Some (length bytes)
low_bad bytes b after content lt =
    let is_low : nat_lt b 32 ≡ true = lt-ltb b 32 lt in
    let quote : (b == 34) ≡ false = ne_eqb b 34 (omega arith) in
    bad_over bytes (b ∷ after) content ∙ rw (quote, is_low) (ap (λ n. Some n) (omega arith))

-- a byte that is no escape, behind a backslash, is found
pub unknown_bad : (bytes : List ℕ) (c : ℕ) (after : List ℕ) → IsContent bytes →
    is_escape c ≡ false →
    search BadContent false (bytes ++ 92 ∷ c ∷ after) ≡ Some (length bytes + 1)
unknown_bad bytes c after content bad =
    bad_over bytes (92 ∷ c ∷ after) content ∙ rw bad (ap (λ n. Some n) (omega arith))
