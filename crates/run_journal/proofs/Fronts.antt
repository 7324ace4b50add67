-- Numbers in front of a text: its longest front of digits.
use Rattle.std.specs.Option.{MatchOption}
use Rattle.std.proofs.Common.{Bor, IfSome, Err, IfNone, None, Ok, Option, Result, Some, ◌≡◌, ◌∙◌, ◌+◌, ◌<◌, ◌^◌, ◌++◌, ◌∷◌, ℕ, zero, suc, List, [], Bool, true, false, ap, arith, cond, drop, get_or, length, refl, subst, sym, take}
use Rattle.std.specs.Char.{is_ascii_digit}
use Rattle.std.specs.Fmt.{decimal}
use Rattle.std.specs.List.{prefix_len}
use Rattle.std.specs.Result.{MatchResult, OkIff, result_ok}
use Rattle.std.specs.Str.{IsUtf8, all_ascii_digits}
use Rattle.std.specs.Str.Parse.{ParsesUnsigned, digits_value}
use Rattle.itoa.proofs.Decimal.{length_one}
use Rattle.std.proofs.lemmas.Bool.{and_from, and_parts}
use Rattle.std.proofs.lemmas.List.{take-append-drop}
use Rattle.std.proofs.lemmas.Fmt.{IsAscii-from_digits, decimal-digits_value, decimal_is_IsNumeral, digits_decimal, digits_value-decimal, first_decimal}
use Rattle.std.proofs.lemmas.Option.{same_Some}
use Rattle.std.proofs.lemmas.Str.{IsUtf8-from_ascii}
use Rattle.std.proofs.lemmas.Str.Parse.{IsNumeralModel, numerals_by_value, parse_digits, parse_gives, tells_all_ascii_digits}
use Rattle.run_journal.specs.Numbers.{EndsNumber, IsNumbered}

abbrev pub AreDigits : List ℕ → Type 0
AreDigits ds = all_ascii_digits ds ≡ true

pub own : IsNumeralModel AreDigits (digits_value 10)
own = numerals_by_value AreDigits tells_all_ascii_digits

abbrev pub count : List ℕ → ℕ
count text = prefix_len is_ascii_digit text

one_more : (n : ℕ) → 1 + n ≡ suc n
one_more n = omega arith

pub taken_digits : (text : List ℕ) → AreDigits (take (count text) text)
taken_digits [] = refl
taken_digits (b ∷ bs) = by (is_ascii_digit b) refl (taken_digits bs)
  where
    by : (c : Bool) → is_ascii_digit b ≡ c → AreDigits (take (count bs) bs) → AreDigits (take (cond c (1 + count bs) 0) (b ∷ bs))
    by true e h = subst (λ k. AreDigits (take k (b ∷ bs))) (sym (one_more (count bs))) (and_from (is_ascii_digit b) (all_ascii_digits (take (count bs) bs)) e h)
    by false e h = refl

pub dropped_ends : (text : List ℕ) → EndsNumber (drop (count text) text)
dropped_ends [] = tt
dropped_ends (b ∷ bs) = by (is_ascii_digit b) refl (dropped_ends bs)
  where
    by : (c : Bool) → is_ascii_digit b ≡ c → EndsNumber (drop (count bs) bs) → EndsNumber (drop (cond c (1 + count bs) 0) (b ∷ bs))
    by true e h = subst (λ k. EndsNumber (drop k (b ∷ bs))) (sym (one_more (count bs))) h
    by false e h = e

count_is : (ds rest : List ℕ) → AreDigits ds → EndsNumber rest → count (ds ++ rest) ≡ length ds
count_is [] [] a e = refl
count_is [] (b ∷ bs) a e = ap (λ c. cond c (1 + count bs) 0) e
count_is (d ∷ ds) rest a e =
    let p = and_parts (is_ascii_digit d) (all_ascii_digits ds) a in
    ap (λ c. cond c (1 + count (ds ++ rest)) 0) p.0 ∙ one_more (count (ds ++ rest)) ∙ ap suc (count_is ds rest p.1 e)

take_front : (ds rest : List ℕ) → take (length ds) (ds ++ rest) ≡ ds
take_front [] rest = refl
take_front (d ∷ ds) rest = ap (λ xs. d ∷ xs) (take_front ds rest)

drop_front : (ds rest : List ℕ) → drop (length ds) (ds ++ rest) ≡ rest
drop_front [] rest = refl
drop_front (d ∷ ds) rest = drop_front ds rest

module _ (text : List ℕ) (n : ℕ) (rest : List ℕ) (h : IsNumbered text n rest) where
  counted : count text ≡ length (decimal n)
  counted = ap count h.splits ∙ count_is (decimal n) rest (digits_decimal own n h.small) h.ends

  -- the number is its longest front of digits
  pub front_is : take (count text) text ≡ decimal n
  front_is = (λ i. take (counted i) (h.splits i)) ∙ take_front (decimal n) rest

  pub behind_is : drop (count text) text ≡ rest
  behind_is = (λ i. drop (counted i) (h.splits i)) ∙ drop_front (decimal n) rest

  pub value_is : digits_value 10 (take (count text) text) ≡ n
  value_is = ap (digits_value 10) front_is ∙ digits_value-decimal own n h.small

-- a text begins with one number
pub one_number : (text : List ℕ) (n m : ℕ) (rest other : List ℕ) → IsNumbered text n rest → IsNumbered text m other → n ≡ m
one_number text n m rest other h k = sym (value_is text n rest h) ∙ value_is text m other k

pub one_rest : (text : List ℕ) (n m : ℕ) (rest other : List ℕ) → IsNumbered text n rest → IsNumbered text m other → rest ≡ other
one_rest text n m rest other h k = sym (behind_is text n rest h) ∙ behind_is text m other k

-- a number has no leading zero
no_zero : (n : ℕ) → n < 2 ^ 64 → 1 < length (decimal n) → get_or (decimal n) 0 0 ≡ 48 → ⊥
no_zero zero s l e = absurd (omega (arith, l, length_one 0 (omega arith)))
no_zero (suc n) s l e = let f = first_decimal (suc n) (omega arith) s in omega (arith, f, e)

pub leading_zero : (text : List ℕ) (n : ℕ) (rest : List ℕ) → 1 < length (take (count text) text) → get_or (take (count text) text) 0 0 ≡ 48 →
    ¬ IsNumbered text n rest
leading_zero text n rest l e h =
    let f = front_is text n rest h in
    no_zero n h.small (omega (arith, l, ap length f)) (sym (ap (λ xs. get_or xs 0 0) f) ∙ e)

-- digits without a leading zero, of 64 bits
pub is_numbered : (text : List ℕ) (n : ℕ) → 0 < length (take (count text) text) →
    (get_or (take (count text) text) 0 0 ≡ 48 → length (take (count text) text) ≡ 1) →
    digits_value 10 (take (count text) text) ≡ n → n < 2 ^ 64 → text ≡ take (count text) text ++ drop (count text) text →
    IsNumbered text n (drop (count text) text)
is_numbered text n some no_zero value small splits = record {
  splits = splits ∙ ap (λ ds. ds ++ drop (count text) text) (sym (ap decimal (sym value)
      ∙ decimal-digits_value own (take (count text) text) (taken_digits text) some no_zero (omega (arith, value, small))));
  small = small;
  ends = dropped_ends text;
}

-- ---- what calls of the library tell

pub utf8_front : (text bs : List ℕ) → bs ≡ take (count text) text → IsUtf8 bs
utf8_front text bs e = IsUtf8-from_ascii bs (IsAscii-from_digits bs (own.to bs (ap all_ascii_digits e ∙ taken_digits text)))

-- no text of digits is refused
pub never_refused : {A E : Type 0} (r : Result A E) (P : A → Type 0) (Q : E → Type 0) (T : Type 0) → MatchResult r P (λ e. ¬ T × Q e) → T →
    result_ok r ≡ None → ⊥
never_refused (Ok x) P Q T m t e = cc
never_refused (Err x) P Q T m t e = m.0 t

pub if_none : {A : Type 0} (o : Option A) (P : Type 0) → P → IfNone o P
if_none None P p = p
if_none (Some x) P p = tt

-- where digits aren't read as a number, no number of 64 bits stands there
pub no_number : {E : Type 0} (text bs : List ℕ) (r : Result ℕ E) → bs ≡ take (count text) text → ParsesUnsigned 64 10 bs r → result_ok r ≡ None →
    (n : ℕ) (rest : List ℕ) → ¬ IsNumbered text n rest
no_number text bs r e p none n rest h =
    let front = e ∙ front_is text n rest h in
    let value = ap (digits_value 10) front ∙ digits_value-decimal own n h.small in
    let some = (decimal_is_IsNumeral n h.small).0.0 in
    none_some (sym none ∙ ap result_ok (parse_gives own 64 bs r p (ap all_ascii_digits e ∙ taken_digits text)
    (omega (arith, ap length front, some)) (omega (arith, value, h.small))))
  where
    none_some : {z : ℕ} → None ≡ Some z → ⊥
    none_some q = cc

by_result : {E : Type 0} (bs : List ℕ) (r : Result ℕ E) (n : ℕ) → OkIff r ((0 < length bs) × (digits_value 10 bs < 2 ^ 64)) (digits_value 10 bs) →
    result_ok r ≡ Some n → (0 < length bs) × (n < 2 ^ 64) × (digits_value 10 bs ≡ n)
by_result bs (Ok x) n q s = let same : x ≡ n = same_Some x n s in (q.0.0, omega (arith, q.0.1, q.1, same), sym q.1 ∙ same)
by_result bs (Err x) n q s = absurd cc

pub a_number : {E : Type 0} (text bs : List ℕ) (r : Result ℕ E) (n : ℕ) → bs ≡ take (count text) text → ParsesUnsigned 64 10 bs r → result_ok r ≡ Some n →
    (0 < length bs) × (n < 2 ^ 64) × (digits_value 10 bs ≡ n)
a_number text bs r n e p some = by_result bs r n (parse_digits own 64 bs r p (ap all_ascii_digits e ∙ taken_digits text)) some

-- the text that was made of bytes has these bytes
pub word_is : {E : Type 0} (r : Result (Bor (List ℕ)) E) (w : Bor (List ℕ)) (bs : List ℕ) (T : Type 0) (Q : E → Type 0) →
    MatchResult r (λ s. (s.now ≡ bs) × T) Q → result_ok r ≡ Some w → w.now ≡ bs
word_is (Ok x) w bs T Q m s = ap (λ (b : Bor (List ℕ)). b.now) (sym (same_Some x w s)) ∙ m.0
word_is (Err x) w bs T Q m s = absurd cc

-- the whole: a number without a leading zero, and what stands behind
pub found : {E : Type 0} (text bs word behind : List ℕ) (r : Result ℕ E) (n : ℕ) → bs ≡ take (count text) text → behind ≡ drop (count text) text → word ≡ bs →
    (0 < length bs → get_or bs 0 0 ≡ 48 → length bs ≡ 1) → ParsesUnsigned 64 10 word r → result_ok r ≡ Some n → IsNumbered text n behind
found text bs word behind r n front back same alone p some =
    let is = same ∙ front in
    let a = a_number text word r n is p some in
    let length_is = ap length is in
    let first : 0 < length bs = omega (arith, a.0, ap length same) in
    subst (λ xs. IsNumbered text n xs) (sym back)
    (is_numbered text n (omega (arith, a.0, length_is))
    (λ z. omega (arith, ap length front, alone first (ap (λ xs. get_or xs 0 0) front ∙ z)))
    (ap (digits_value 10) (sym is) ∙ a.2) a.1 (sym (take-append-drop (count text) text)))

-- ---- options by cases

pub some_of : {A : Type 0} (o : Option A) (P : Type 0) (Q : A → Type 0) → MatchOption o P Q → IfSome o Q
some_of None P Q m = tt
some_of (Some x) P Q m = m

pub none_of : {A : Type 0} (o : Option A) (P : Type 0) (Q : A → Type 0) → MatchOption o P Q → IfNone o P
none_of None P Q m = m
none_of (Some x) P Q m = tt
