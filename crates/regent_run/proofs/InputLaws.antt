-- Inputs, one word after the other.
use Rattle.std.proofs.Common.{◌≡◌, ◌∙◌, ℕ, ℤ, Bool, false, true, suc, zero, ◌+◌, ◌<◌, ◌≤◌, ◌⊎◌, inl, inr, List, [], ◌∷◌, ◌++◌, length, get_or, take, refl, ap, sym, subst, arith, map}
use Rattle.std.proofs.lemmas.Bool.{cases_lt, iff_false}
use Rattle.std.proofs.lemmas.Bool.Decides.{Decides-int_eq}
use Rattle.std.proofs.lemmas.Int.{SFits-int_wrap, int_wrap_fits}
use Rattle.std.proofs.lemmas.List.{map-append}
use Rattle.std.specs.Char.{digit_value}
use Rattle.std.specs.Ordering.{int_eq}
use Rattle.std.specs.Prelude.{FitsSigned}
use Rattle.std.specs.Int.{w64}
use Rattle.std.specs.Str.Parse.{AllDigits, signed_digits_value}
use Rattle.lane_kernels.specs.Numbers.{FitsWidth, std_width, wrapped}
use Rattle.lane_kernels.specs.declared.numbers.Width.{Width}
use Rattle.lane_kernels.specs.declared.numbers.Width.TheVariants.{W32, W64}
use Rattle.regent_run.specs.Inputs.{AreInputs, IsInput, IsNumber, digits_in}

-- each width's numbers are numbers of 64 bits
pub fits_64 : (w : Width) (z : ℤ) → FitsWidth w z → FitsSigned w64 z
fits_64 W32 z h = omega (arith, h)
fits_64 W64 z h = h

-- there are as many words as widths
pub as_many : (ws : List Width) (words : List (List ℕ)) (zs : List ℤ) → AreInputs ws words zs → length ws ≡ length words
as_many [] [] [] h = refl
as_many [] [] (z ∷ zs) h = absurd h
as_many [] (word ∷ words) zs h = absurd h
as_many (w ∷ ws) [] zs h = absurd h
as_many (w ∷ ws) (word ∷ words) [] h = absurd h
as_many (w ∷ ws) (word ∷ words) (z ∷ zs) h = ap suc (as_many ws words zs h.1)

-- one more
more_inputs : (ws : List Width) (words : List (List ℕ)) (zs : List ℤ) (w : Width) (word : List ℕ) (z : ℤ) → AreInputs ws words zs → IsInput w word z →
    AreInputs (ws ++ w ∷ []) (words ++ word ∷ []) (zs ++ z ∷ [])
more_inputs [] [] [] w word z h is = (is, tt)
more_inputs [] [] (y ∷ zs) w word z h is = absurd h
more_inputs [] (v ∷ words) zs w word z h is = absurd h
more_inputs (u ∷ ws) [] zs w word z h is = absurd h
more_inputs (u ∷ ws) (v ∷ words) [] w word z h is = absurd h
more_inputs (u ∷ ws) (v ∷ words) (y ∷ zs) w word z h is = (h.0, more_inputs ws words zs w word z h.1 is)

take-more : {A : Type 0} (xs : List A) (i : ℕ) (d : A) → i < length xs → take (i + 1) xs ≡ take i xs ++ get_or xs i d ∷ []
take-more [] i d h = absurd (omega arith)
take-more (x ∷ xs) zero d h = refl
take-more (x ∷ xs) (suc i) d h = let e : suc i + 1 ≡ suc (i + 1) = omega arith in rw e (ap (λ ys. x ∷ ys) (take-more xs i d (omega arith)))

map-more : {A : Type 0} (v : A → List ℕ) (words : List A) (i : ℕ) (d : A) → i < length words → map v (take (i + 1) words) ≡ map v (take i words) ++ v (get_or words i d) ∷ []
map-more v words i d h = ap (map v) (take-more words i d h) ∙ map-append v (take i words) (get_or words i d ∷ [])

pub inputs_on : {A : Type 0} (v : A → List ℕ) (ws : List Width) (words : List A) (i : ℕ) (w : Width) (d : A) (zs : List ℤ) (z : ℤ) → i < length ws → i < length words →
    IsInput (get_or ws i w) (v (get_or words i d)) z → AreInputs (take i ws) (map v (take i words)) zs → AreInputs (take (i + 1) ws) (map v (take (i + 1) words)) (zs ++ z ∷ [])
inputs_on v ws words i w d zs z h k is so_far =
    subst (λ us. AreInputs us (map v (take (i + 1) words)) (zs ++ z ∷ [])) (sym (take-more ws i w h))
    (subst (λ us. AreInputs (take i ws ++ get_or ws i w ∷ []) us (zs ++ z ∷ [])) (sym (map-more v words i d k))
    (more_inputs (take i ws) (map v (take i words)) zs (get_or ws i w) (v (get_or words i d)) z so_far is))

-- each word is one of the numbers
pub each_input : {A : Type 0} (v : A → List ℕ) (ws : List Width) (words : List A) (zs : List ℤ) (i : ℕ) (w : Width) (d : A) → i < length ws →
    AreInputs ws (map v words) zs → (z : ℤ) × IsInput (get_or ws i w) (v (get_or words i d)) z
each_input v [] words zs i w d h is = absurd (omega arith)
each_input v (u ∷ ws) [] zs i w d h is = absurd is
each_input v (u ∷ ws) (word ∷ words) [] i w d h is = absurd is
each_input v (u ∷ ws) (word ∷ words) (z ∷ zs) zero w d h is = (z, is.0)
each_input v (u ∷ ws) (word ∷ words) (z ∷ zs) (suc i) w d h is = each_input v ws words zs i w d (omega arith) is.1

-- words have one list of numbers
pub one_inputs : (ws : List Width) (words : List (List ℕ)) (ys zs : List ℤ) → AreInputs ws words ys → AreInputs ws words zs → ys ≡ zs
one_inputs [] [] [] [] p q = refl
one_inputs [] [] [] (z ∷ zs) p q = absurd q
one_inputs [] [] (y ∷ ys) zs p q = absurd p
one_inputs [] (word ∷ words) ys zs p q = absurd p
one_inputs (w ∷ ws) [] ys zs p q = absurd p
one_inputs (w ∷ ws) (word ∷ words) [] zs p q = absurd p
one_inputs (w ∷ ws) (word ∷ words) (y ∷ ys) [] p q = absurd q
one_inputs (w ∷ ws) (word ∷ words) (y ∷ ys) (z ∷ zs) p q =
    ap (λ x. x ∷ ys) (p.0.1 ∙ sym q.0.1) ∙ ap (λ xs. z ∷ xs) (one_inputs ws words ys zs p.1 q.1)

-- ---- words are numbers of the widths, or they aren't

both_or_not : {A B : Type 0} → A ⊎ (A → ⊥) → B ⊎ (B → ⊥) → (A × B) ⊎ (A × B → ⊥)
both_or_not (inl a) (inl b) = inl (a, b)
both_or_not (inl a) (inr none) = inr (λ h. none h.1)
both_or_not (inr none) b = inr (λ h. none h.0)

less_or_not : (m n : ℕ) → (m < n) ⊎ (m < n → ⊥)
less_or_not m n = by (cases_lt m n)
  where
    by : (m < n) ⊎ (n ≤ m) → (m < n) ⊎ (m < n → ⊥)
    by (inl less) = inl less
    by (inr more) = inr (λ less. absurd (omega (arith, less, more)))

digits_or_not : (ds : List ℕ) → AllDigits 10 ds ⊎ (AllDigits 10 ds → ⊥)
digits_or_not [] = inl tt
digits_or_not (d ∷ ds) = both_or_not (less_or_not (digit_value d) 10) (digits_or_not ds)

short_or_not : (m n : ℕ) → (m ≤ n) ⊎ (m ≤ n → ⊥)
short_or_not m n = by (cases_lt n m)
  where
    by : (n < m) ⊎ (m ≤ n) → (m ≤ n) ⊎ (m ≤ n → ⊥)
    by (inl more) = inr (λ less. absurd (omega (arith, less, more)))
    by (inr less) = inl less

number_or_not : (word : List ℕ) → IsNumber word ⊎ (IsNumber word → ⊥)
number_or_not word =
    both_or_not (both_or_not (less_or_not 0 (length (digits_in word))) (digits_or_not (digits_in word))) (short_or_not (length (digits_in word)) 20)

fits_or_not : (w : Width) (z : ℤ) → FitsWidth w z ⊎ (FitsWidth w z → ⊥)
fits_or_not w z = by (int_eq (wrapped w z) z) refl
  where
    by : (b : Bool) → int_eq (wrapped w z) z ≡ b → FitsWidth w z ⊎ (FitsWidth w z → ⊥)
    by true e = inl (subst (FitsWidth w) ((Decides-int_eq (wrapped w z) z).0 e) (SFits-int_wrap (std_width w) z))
    by false e = inr (λ h. iff_false (Decides-int_eq (wrapped w z) z) e (int_wrap_fits (std_width w) z h))

input_or_not : (w : Width) (word : List ℕ) → ((z : ℤ) × IsInput w word z) ⊎ ((z : ℤ) → IsInput w word z → ⊥)
input_or_not w word = by (number_or_not word) (fits_or_not w (signed_digits_value 10 word))
  where
    by : IsNumber word ⊎ (IsNumber word → ⊥) → FitsWidth w (signed_digits_value 10 word) ⊎ (FitsWidth w (signed_digits_value 10 word) → ⊥) →
        ((z : ℤ) × IsInput w word z) ⊎ ((z : ℤ) → IsInput w word z → ⊥)
    by (inl is) (inl fits) = inl (signed_digits_value 10 word, (is, refl, fits))
    by (inl is) (inr none) = inr (λ z h. none (subst (FitsWidth w) h.1 h.2))
    by (inr none) fits = inr (λ z h. none h.0)

pub inputs_or_not : (ws : List Width) (words : List (List ℕ)) → ((zs : List ℤ) × AreInputs ws words zs) ⊎ ((zs : List ℤ) → AreInputs ws words zs → ⊥)
inputs_or_not [] [] = inl ([], tt)
inputs_or_not [] (word ∷ words) = inr (λ zs h. absurd h)
inputs_or_not (w ∷ ws) [] = inr (λ zs h. absurd h)
inputs_or_not (w ∷ ws) (word ∷ words) = by (input_or_not w word) (inputs_or_not ws words)
  where
    no_first : ((z : ℤ) → IsInput w word z → ⊥) → (zs : List ℤ) → AreInputs (w ∷ ws) (word ∷ words) zs → ⊥
    no_first none [] h = h
    no_first none (z ∷ zs) h = none z h.0

    no_rest : ((zs : List ℤ) → AreInputs ws words zs → ⊥) → (zs : List ℤ) → AreInputs (w ∷ ws) (word ∷ words) zs → ⊥
    no_rest none [] h = h
    no_rest none (z ∷ zs) h = none zs h.1

    by : ((z : ℤ) × IsInput w word z) ⊎ ((z : ℤ) → IsInput w word z → ⊥) → ((zs : List ℤ) × AreInputs ws words zs) ⊎ ((zs : List ℤ) → AreInputs ws words zs → ⊥) →
        ((zs : List ℤ) × AreInputs (w ∷ ws) (word ∷ words) zs) ⊎ ((zs : List ℤ) → AreInputs (w ∷ ws) (word ∷ words) zs → ⊥)
    by (inl i) (inl is) = inl (i.0 ∷ is.0, (i.1, is.1))
    by (inl i) (inr none) = inr (no_rest none)
    by (inr none) rest = inr (no_first none)
