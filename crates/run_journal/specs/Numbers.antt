-- Numbers in front of a text.
use Rattle.std.specs.Prelude.{◌≡◌, ◌<◌, ◌^◌, ◌++◌, ◌∷◌, ℕ, List, [], false}
use Rattle.std.specs.Char.{is_ascii_digit}
use Rattle.std.specs.Fmt.{decimal}

-- no digit goes on a number
abbrev pub EndsNumber : List ℕ → Type 0
EndsNumber [] = Unit {0}
EndsNumber (b ∷ bs) = is_ascii_digit b ≡ false

-- a text begins with a number of 64 bits, without leading zeros, and goes on so
pub record IsNumbered (text : List ℕ) (n : ℕ) (rest : List ℕ) : Type 0 where
  pub splits : text ≡ decimal n ++ rest
  pub small : n < 2 ^ 64
  pub ends : EndsNumber rest
