-- Rising lists.
use Rattle.std.proofs.Common.{◌≡◌, ℕ, ◌<◌, ◌≤◌, List, length, get_or, ap, arith, ⊎_elim}
use Rattle.std.specs.List.Sorted.{IsStrictlyIncreasing}
use Rattle.std.proofs.lemmas.Bool.{cases_lt}
use Rattle.std.proofs.lemmas.List.Kept.{AllPairs-from_increasing}

pub rising_le : (xs : List ℕ) → IsStrictlyIncreasing xs → (i k : ℕ) → i ≤ k → k < length xs → get_or xs i 0 ≤ get_or xs k 0
rising_le xs up i k l g =
    ⊎_elim (λ u. omega (arith, AllPairs-from_increasing xs up i k 0 u g)) (λ o. let e : i ≡ k = omega arith in omega (arith, ap (λ j. get_or xs j 0) e)) (cases_lt i k)
