-- Numbers, from their texts.
use Rattle.std.proofs.Common.{◌≡◌, ◌∙◌, ℕ, ◌<◌, ◌≤◌, ◌^◌, Bool, cond, true, false, ◌&&◌, [], ◌∷◌, length, Some, None, refl, ap, sym, arith, nat_le}
use Rattle.std.specs.Char.{digit_value, is_digit}
use Rattle.std.specs.List.{list_all}
use Rattle.std.specs.Str.Parse.{AllDigits}
use Rattle.std.proofs.lemmas.Bool.{le-leb, leb-true, lt-ltb, ltb-true}
use Rattle.command_words.specs.Commands.{is_number, number, value}
use Rattle.command_words.specs.Matched.{IsNumber, IsNumberOf}
use Rattle.command_words.specs.Settings.{Text}

split : (a b : Bool) → (a && b) ≡ true → (a ≡ true) × (b ≡ true)
split true true e = (refl, refl)
split true false e = cc
split false b e = cc

both : (a b : Bool) → a ≡ true → b ≡ true → (a && b) ≡ true
both true b p q = q
both false b p q = p

digits_from : (ds : Text) → list_all (λ b. is_digit b 10) ds ≡ true → AllDigits 10 ds
digits_from [] e = tt
digits_from (d ∷ ds) e = let h = split (is_digit d 10) (list_all (λ b. is_digit b 10) ds) e in (ltb-true (digit_value d) 10 h.0, digits_from ds h.1)

digits_to : (ds : Text) → AllDigits 10 ds → list_all (λ b. is_digit b 10) ds ≡ true
digits_to [] h = refl
digits_to (d ∷ ds) h = both (is_digit d 10) (list_all (λ b. is_digit b 10) ds) (lt-ltb (digit_value d) 10 h.0) (digits_to ds h.1)

number_from : (word : Text) → is_number word ≡ true → IsNumber word
number_from word e =
    let h = split (nat_le 1 (length word)) (nat_le (length word) 20 && list_all (λ b. is_digit b 10) word) e in
    let i = split (nat_le (length word) 20) (list_all (λ b. is_digit b 10) word) h.1 in
    let some : 1 ≤ length word = leb-true 1 (length word) h.0 in
    ((omega arith, digits_from word i.1), leb-true (length word) 20 i.0)

number_to : (word : Text) → IsNumber word → is_number word ≡ true
number_to word h =
    let some : 1 ≤ length word = let lt = h.0.0 in omega arith in
    both (nat_le 1 (length word)) (nat_le (length word) 20 && list_all (λ b. is_digit b 10) word) (le-leb 1 (length word) some)
    (both (nat_le (length word) 20) (list_all (λ b. is_digit b 10) word) (le-leb (length word) 20 h.1) (digits_to word h.0.1))

abbrev in_limits : ℕ → ℕ → Text → Bool
in_limits least most word = nat_le least (value word) && nat_le (value word) most

module _ (least most : ℕ) (word : Text) where
  refused : (b : Bool) → (b ≡ true → ⊥) → None ≡ cond b (Some (value word)) None
  refused true h = absurd (h refl)
  refused false h = refl

  pub no_number : most < 2 ^ 64 → IsNumberOf word None → None ≡ number least most word
  no_number fits none = refused (is_number word && in_limits least most word) (λ e.
      let h = split (is_number word) (in_limits least most word) e in
      let i = split (nat_le least (value word)) (nat_le (value word) most) h.1 in
      let small : value word ≤ most = leb-true (value word) most i.1 in
      none (number_from word h.0, omega arith))

  module _ (n : ℕ) (is : IsNumberOf word (Some n)) where
    pub the_number : least ≤ n → n ≤ most → Some n ≡ number least most word
    the_number low high =
        let here = number_to word is.0 in
        let above : nat_le least (value word) ≡ true = ap (nat_le least) (sym is.1) ∙ le-leb least n low in
        let below : nat_le (value word) most ≡ true = ap (λ m. nat_le m most) (sym is.1) ∙ le-leb n most high in
        ap Some is.1
        ∙ ap (λ b. cond b (Some (value word)) None)
        (sym (both (is_number word) (in_limits least most word) here (both (nat_le least (value word)) (nat_le (value word) most) above below)))
