-- Reductions that wait.
use Rattle.std.specs.Prelude.{List, ℕ}
use Rattle.reduction_folds.specs.declared.fold.Fold.{Fold}

-- in the order of adding, and how many more may be added for sure
pub record Waiting : Type 0 where
  pub folds : List Fold
  pub spare : ℕ
