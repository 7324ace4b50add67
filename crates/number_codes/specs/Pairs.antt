-- Two numbers as one number, and back: each number is the number of one pair.
use Rattle.std.specs.Prelude.{◌≡◌, ◌+◌, ◌*◌, ◌-◌, ◌^◌, suc, ℕ}
use Rattle.number_codes.specs.Lists.{halved}

abbrev pub pair_code : ℕ → ℕ → ℕ
pair_code a b = 2 ^ a * (2 * b + 1) - 1

abbrev pub first_of : ℕ → ℕ
first_of n = (halved (suc n) (suc n)).times

abbrev pub second_of : ℕ → ℕ
second_of n = (halved (suc n) (suc n)).left

abbrev pub PairsTell : Type 0
PairsTell = (a b : ℕ) → (first_of (pair_code a b) ≡ a) × (second_of (pair_code a b) ≡ b)

abbrev pub PairsAreAll : Type 0
PairsAreAll = (n : ℕ) → pair_code (first_of n) (second_of n) ≡ n
