-- What a list contains.
use Rattle.std.proofs.Common.{◌≡◌, ◌⊎◌, ◌∷◌, zero, suc, List, [], arith, inl, inr, refl}
use Rattle.std.specs.List.{Contains}

pub none_in : {X : Type 0} (y : X) → ¬ Contains [] y
none_in y c = omega (arith, c.1)

pub contains_cases : {X : Type 0} (x : X) (xs : List X) (y : X) → Contains (x ∷ xs) y → (x ≡ y) ⊎ Contains xs y
contains_cases x xs y (zero, l, e) = inl e
contains_cases x xs y (suc i, l, e) = inr (i, omega (arith, l), e)

pub contains_first : {X : Type 0} (x : X) (xs : List X) → Contains (x ∷ xs) x
contains_first x xs = (0, omega arith, refl)

pub contains_later : {X : Type 0} (x : X) (xs : List X) (y : X) → Contains xs y → Contains (x ∷ xs) y
contains_later x xs y (i, l, e) = (suc i, omega (arith, l), e)
