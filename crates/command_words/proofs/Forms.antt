-- The forms of words, and what clap sees in a word of each.
use Rattle.std.proofs.Common.{◌≡◌, ◌∙◌, ℕ, Bool, true, false, [], ◌∷◌, Option, Some, None, length, refl, ap, sym, subst, bytes_eq, if◌then◌else◌, IsUtf8, encode_utf8_all, slice_get, eqb, arith, ◌⊎◌, inl, inr, eqb-true}
use Rattle.std.specs.List.{after_first, before_first, list_any}
use Rattle.std.specs.Char.{encode_utf8}
use Rattle.std.specs.Str.{chars}
use Rattle.std.proofs.lemmas.Str.{chars-encodes}
use Rattle.clap.specs.Lexer.{long_of, short_of}
use Rattle.command_words.specs.Settings.{Text}
use Rattle.command_words.specs.Uses.{dashed, form_of, plain, separator, setting}

abbrev pub dashes : Text
dashes = 45 ∷ 45 ∷ []

-- what a word is, by its form
pub data Looks : Text → Type 0 where
  looks_plain : {x : Text} → form_of x ≡ plain → bytes_eq x dashes ≡ false → long_of x ≡ None → short_of x ≡ None → Looks x
  looks_separate : {x : Text} → form_of x ≡ separator → bytes_eq x dashes ≡ true → Looks x
  looks_set : {x : Text} (n : Text) (v : Option Text) → form_of x ≡ setting n v → bytes_eq x dashes ≡ false → long_of x ≡ Some (n, v) → Looks x
  looks_dashed : {x : Text} (f : ℕ) (fs : Text) → form_of x ≡ dashed → bytes_eq x dashes ≡ false → long_of x ≡ None → short_of x ≡ Some (f ∷ fs) → x ≡ 45 ∷ f ∷ fs → Looks x

one_byte : (x : ℕ) (d : Bool) → eqb x 45 ≡ d → Looks (x ∷ [])
one_byte x true e = looks_plain refl (rw e refl) (rw e refl) (rw e refl)
one_byte x false e = looks_plain refl (rw e refl) (rw e refl) (rw e refl)

more_bytes : (x y : ℕ) (rest : Text) (d e : Bool) → eqb x 45 ≡ d → eqb y 45 ≡ e → x ≡ 45 ⊎ (d ≡ false) → Looks (x ∷ y ∷ rest)
more_bytes x y rest false e d-is e-is minus = looks_plain (rw d-is refl) (rw d-is refl) (rw d-is refl) (rw d-is refl)
more_bytes x y [] true true d-is e-is minus = looks_separate (rw (d-is, e-is) refl) (rw (d-is, e-is) refl)
more_bytes x y (z ∷ zs) true true d-is e-is minus = looks_set (before_first (λ b. eqb b 61) (z ∷ zs)) (if list_any (λ b. eqb b 61) (z ∷ zs) then Some (after_first (λ b. eqb b 61) (z ∷ zs)) else None) (rw (d-is, e-is) refl) (rw (d-is, e-is) refl) (rw (d-is, e-is) refl)
more_bytes x y rest true false d-is e-is minus =
    looks_dashed y rest (rw (d-is, e-is) refl) (rw (d-is, e-is) refl) (rw (d-is, e-is) refl) (rw (d-is, e-is) refl)
    (elim minus [ inl is ↦ ap (λ b. b ∷ y ∷ rest) is | inr other ↦ absurd (true_false other) ])
  where
    true_false : true ≡ false → ⊥
    true_false h = cc

is_minus : (x : ℕ) (d : Bool) → eqb x 45 ≡ d → x ≡ 45 ⊎ (d ≡ false)
is_minus x true e = inl (eqb-true x 45 e)
is_minus x false e = inr refl

pub looks : (x : Text) → Looks x
looks [] = looks_plain refl refl refl refl
looks (x ∷ []) = one_byte x (eqb x 45) refl
looks (x ∷ y ∷ rest) = more_bytes x y rest (eqb x 45) (eqb y 45) refl refl (is_minus x (eqb x 45) refl)

-- ---- characters

lone_minus : (f : ℕ) (fs cs : Text) → cs ≡ 45 ∷ [] → encode_utf8_all cs ≡ 45 ∷ f ∷ fs → ⊥
unfolding encode_utf8
lone_minus f fs cs one text =
    let same : 45 ∷ [] ≡ 45 ∷ f ∷ fs = subst (λ v. encode_utf8_all v ≡ 45 ∷ f ∷ fs) one text in
    let long : 1 ≡ length (45 ∷ f ∷ fs) = ap length same in
    omega arith

after_minus : (f : ℕ) (fs : Text) → chars (45 ∷ f ∷ fs) ≡ 45 ∷ chars (f ∷ fs)
unfolding chars
after_minus f fs = refl

-- a text behind a `-` has a first character
pub first_char : (x : Text) (f : ℕ) (fs : Text) → IsUtf8 x → x ≡ 45 ∷ f ∷ fs → (c : ℕ) × (slice_get (chars (f ∷ fs)) 0 ≡ Some c)
first_char x f fs text is = go (chars (f ∷ fs)) refl
  where
    go : (cs : Text) → chars (f ∷ fs) ≡ cs → (c : ℕ) × (slice_get cs 0 ≡ Some c)
    go (c ∷ cs) e = (c, refl)
    go [] e = absurd (lone_minus f fs text.0
        (sym (chars-encodes text.0 text.1.0) ∙ ap chars (text.1.1 ∙ is) ∙ after_minus f fs ∙ ap (λ v. 45 ∷ v) e) (text.1.1 ∙ is))
