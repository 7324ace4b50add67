-- Lists that are gone over from front to back, by operators and tests on two items.
use Rattle.std.specs.Prelude.{◌≡◌, ℕ, zero, suc, ◌==◌, ℤ, Bool, true, false, cond, not, ◌||◌}
use Rattle.std.specs.Prelude.{List, ◌∷◌, length, FitsSigned}
use Rattle.std.specs.Prelude.{bit_and, bit_or}
use Rattle.std.specs.Int.{w64, bit_not}
use Rattle.std.specs.Ordering.{int_eq}
use Rattle.std.specs.Simd.Lanes.{Each1, zip2}
use Rattle.lane_kernels.specs.Numbers.{applied}
use Rattle.lane_kernels.specs.declared.update.Update.{Update}
use Rattle.lane_kernels.specs.declared.update.Update.TheVariants.{Fold, Copy}
use Rattle.lane_kernels.specs.declared.word_operator.WordOperator.{WordOperator}
use Rattle.lane_kernels.specs.declared.word_operator.WordOperator.TheVariants.{And, Or, Minus}

-- the first list, with the results of f on its first n items and those beside them in their place
abbrev pub paired_to : {A B : Type 0} → (A → B → A) → ℕ → List A → List B → List A
paired_to f zero xs ys = xs
paired_to f (suc n) (x ∷ xs) (y ∷ ys) = f x y ∷ paired_to f n xs ys
paired_to f (suc n) xs ys = xs

-- whether any two items beside each other pass a test
abbrev pub some_pair : {A B : Type 0} → (A → B → Bool) → List A → List B → Bool
some_pair f (x ∷ xs) (y ∷ ys) = f x y || some_pair f xs ys
some_pair f _ _ = false

abbrev pub differ : ℤ → ℤ → Bool
differ a b = not (int_eq a b)

-- two lists item by item
abbrev pub beside : {A B : Type 0} → List A → List B → List (A × B)
beside xs ys = zip2 (λ x y. (x, y)) xs ys

-- what a number becomes beside another
abbrev pub updated : Update → ℤ → ℤ → ℤ
updated (Fold op width) a b = applied op width a b
updated Copy a b = b

-- the same, where a mark is set
abbrev pub updated_where : Update → ℤ → Bool × ℤ → ℤ
updated_where update a marked = cond marked.0 (updated update a marked.1) a

-- an operator on two words
abbrev pub word_of : WordOperator → ℕ → ℕ → ℕ
word_of And a b = bit_and a b
word_of Or a b = bit_or a b
word_of Minus a b = bit_and a (bit_not w64 b)

-- a mark as a number, and back
abbrev pub mark_number : Bool → ℕ
mark_number false = 0
mark_number true = 1

abbrev pub is_mark : ℕ → Bool
is_mark n = not (n == 0)

-- numbers that a vector holds
pub record AreLanes (xs : List ℤ) : Type 0 where
  pub eight : length xs ≡ 8
  pub fit : Each1 (FitsSigned w64) xs
