-- The model of a `StdSource`.
use Rattle.std.specs.Prelude.{ℕ}

-- its count of faults, and its reader
pub record CountedReader (R : Type 0) : Type 0 where
  pub faults : ℕ
  pub reader : R
