-- Numbers that digits spell.
use Rattle.std.proofs.Common.{ℕ, suc, ◌+◌, ◌*◌, ◌-◌, ◌^◌, ◌≤◌, ◌<◌, List, [], ◌∷◌, arith}
use Rattle.std.proofs.Common.{length, drop, drop-cons, get_or}
use Rattle.regent_lex.specs.Numbers.{value_on}

-- more digits spell no smaller number
pub value_grows : (n : ℕ) (ds : List ℕ) → n ≤ value_on n ds
value_grows n [] = omega arith
value_grows n (d ∷ ds) = let h = value_grows (n * 10 + (d - 48)) ds in omega arith

-- one more digit behind 2 ^ 60 spells a number that is too large
pub too_large : (n i : ℕ) (ds : List ℕ) → i < length ds → 2 ^ 60 ≤ n →
    2 ^ 63 ≤ value_on n (drop i ds)
too_large n i ds lt h =
    rw (drop-cons ds i 0)
    (let grows = value_grows (n * 10 + (get_or ds i 0 - 48)) (drop (suc i) ds) in omega arith)
