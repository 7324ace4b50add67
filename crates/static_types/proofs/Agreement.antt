-- The shorter of two lists decides how far they are compared.
use Rattle.std.proofs.Common.{◌≡◌, ◌≤◌, ℕ, List, [], ◌∷◌, drop, length, true, refl}
use Rattle.std.proofs.Math.ListN.{drop_of_length-le}
use Rattle.regent_tree.specs.StaticTypes.{Reach}
use Rattle.check_rules.specs.types.Fitting.{agree_all}

agree_all-none : (xs : List Reach) → agree_all xs [] ≡ true
agree_all-none [] = refl
agree_all-none (x ∷ xs) = refl

pub agree_all-short : (xs ys : List Reach) (i : ℕ) → length ys ≤ i → agree_all xs (drop i ys) ≡ true
agree_all-short xs ys i short = rw (drop_of_length-le ys short) (agree_all-none xs)
