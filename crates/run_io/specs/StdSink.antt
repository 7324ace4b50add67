-- The model of a `StdSink`.
use Rattle.std.specs.Prelude.{ℕ}

-- its count of faults, and its writer
pub record FlushedWriter (W : Type 0) : Type 0 where
  pub faults : ℕ
  pub writer : W
