-- The text that `printf` writes.
use Rattle.std.specs.Prelude.{ℕ, ℤ, List, [], ◌∷◌, ◌++◌, true, false, ◌==◌}
use Rattle.std.specs.Fmt.{signed_decimal}

-- the next number in decimal, and the numbers after it
abbrev pub first_number : List ℤ → List ℕ
first_number [] = []
first_number (z ∷ zs) = signed_decimal z

abbrev pub other_numbers : List ℤ → List ℤ
other_numbers [] = []
other_numbers (z ∷ zs) = zs

-- A byte prints itself, but `%` (37): `%%` prints `%`, and `%d`, `%ld` and `%lld` (`l` is 108)
-- print the next number.
abbrev mutual
  pub printed : List ℕ → List ℤ → List ℕ
  printed [] zs = []
  printed (c ∷ cs) zs =
      elim (c == 37) [ true ↦ after_percent cs zs | false ↦ c ∷ printed cs zs ]

  pub after_percent : List ℕ → List ℤ → List ℕ
  after_percent [] zs = []
  after_percent (c ∷ cs) zs = elim (c == 37) [
    | true ↦ 37 ∷ printed cs zs
    | false ↦ elim (c == 108) [
      | true ↦ after_percent cs zs
      | false ↦ first_number zs ++ printed cs (other_numbers zs)
    ]
  ]
