-- The model of a `FileSource`.
use Rattle.std.specs.Prelude.{ℕ, Option}

-- its count of faults, and the file that it has opened
pub record OpenedFile (F : Type 0) : Type 0 where
  pub faults : ℕ
  pub file : Option F
