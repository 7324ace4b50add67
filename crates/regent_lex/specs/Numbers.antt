-- Numbers: decimal digits, and LL behind them where it stands there.
use Rattle.std.specs.Prelude.{◌≡◌, ℕ, ◌+◌, ◌*◌, ◌-◌, Bool, true, false, List, [], ◌∷◌, ◌⊎◌}
use Rattle.std.specs.Prelude.{◌==◌, ◌&&◌, codes}
use Rattle.std.specs.List.{list_all}
use Rattle.regent_lex.specs.Bytes.{dot, capital_l, is_digit, next_is, next_are}

-- the number that digits spell, after digits that spell n
abbrev pub value_on : ℕ → List ℕ → ℕ
value_on n [] = n
value_on n (d ∷ ds) = value_on (n * 10 + (d - 48)) ds

-- the number that digits spell
abbrev pub value_of : List ℕ → ℕ
value_of digits = value_on 0 digits

-- there is no suffix, and neither a digit nor LL comes next
abbrev pub HasNoSuffix : List ℕ → List ℕ → Type 0
HasNoSuffix suffix after =
    (suffix ≡ []) × (next_is is_digit after ≡ false) × (next_are capital_l capital_l after ≡ false)

-- The digits are all that stand there, and the suffix behind them is LL where LL stands there.
pub record IsNumeral (digits suffix after : List ℕ) : Type 0 where
  pub first : next_is is_digit digits ≡ true
  pub all : list_all is_digit digits ≡ true
  pub ends : HasNoSuffix suffix after ⊎ (suffix ≡ codes "LL")

-- a dot and a digit
abbrev pub is_fraction : List ℕ → Bool
is_fraction [] = false
is_fraction (b ∷ bs) = (b == dot) && next_is is_digit bs
