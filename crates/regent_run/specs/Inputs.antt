-- The numbers that words spell.
use Rattle.std.specs.Prelude.{◌≡◌, ◌≤◌, ℕ, ℤ, List, [], ◌∷◌, Option, Some, None, cond, drop, length, FitsSigned}
use Rattle.std.specs.Int.{w64}
use Rattle.std.specs.Str.Parse.{IsNumeral, signed_digits_value, starts_with_minus}
use Rattle.lane_kernels.specs.Numbers.{FitsWidth}
use Rattle.lane_kernels.specs.declared.numbers.Width.{Width}

-- the part after a `-`
abbrev pub digits_in : List ℕ → List ℕ
digits_in word = cond (starts_with_minus word) (drop 1 word) word

-- the word is a number: an optional `-`, and 1 to 20 decimal digits
abbrev pub IsNumber : List ℕ → Type 0
IsNumber word = IsNumeral 10 (digits_in word) × (length (digits_in word) ≤ 20)

-- the word is this number, and the width has it
abbrev pub IsInput : Width → List ℕ → ℤ → Type 0
IsInput w word z = IsNumber word × (z ≡ signed_digits_value 10 word) × FitsWidth w z

-- for each width a word, which is its number
abbrev pub AreInputs : List Width → List (List ℕ) → List ℤ → Type 0
AreInputs [] [] [] = Unit {0}
AreInputs (w ∷ ws) (word ∷ words) (z ∷ zs) = IsInput w word z × AreInputs ws words zs
AreInputs _ _ _ = ⊥

-- ---- results of the code

-- a number of 64 bits, or None if the word isn't one
abbrev pub IsInt64 : List ℕ → Type 0
IsInt64 word = IsNumber word × FitsSigned w64 (signed_digits_value 10 word)

abbrev pub IsRead : List ℕ → Option ℤ → Type 0
IsRead word None = ¬ IsInt64 word
IsRead word (Some z) = IsInt64 word × (z ≡ signed_digits_value 10 word)

-- the number of a width, or None if the word isn't one
abbrev pub IsFound : Width → List ℕ → Option ℤ → Type 0
IsFound w word None = (z : ℤ) → IsInput w word z → ⊥
IsFound w word (Some z) = IsInput w word z

-- the numbers of the words, or None if they don't fit
abbrev pub AreFound : List Width → List (List ℕ) → Option (List ℤ) → Type 0
AreFound ws words None = (zs : List ℤ) → AreInputs ws words zs → ⊥
AreFound ws words (Some zs) = AreInputs ws words zs
