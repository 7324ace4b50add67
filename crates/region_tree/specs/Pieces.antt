-- Pieces of a field.
use Rattle.std.specs.Prelude.{ℕ, ℤ, List}
use Rattle.lane_kernels.specs.declared.numbers.Mode.{Mode}

-- points that are held in a mode, with their numbers
pub record Held : Type 0 where
  pub points : List ℕ
  pub mode : Mode
  pub values : List ℤ
