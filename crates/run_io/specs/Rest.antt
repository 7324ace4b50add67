-- The effect of reading the rest of a source on it.
use Rattle.std.specs.Prelude.{◌≡◌, ◌≤◌, ℕ, List, Option, length}
use Rattle.run_io.specs.Faults.{Rose}
use Rattle.run_io.specs.Source.{Moves}
use Rattle.run_io.specs.declared.rest.NoRest.{NoRest}
use Rattle.run_io.specs.declared.rest.NoRest.TheVariants as no_rest

-- the effect of a failure on the source's count of faults
abbrev pub IsCause : ℕ → ℕ → NoRest → Type 0
IsCause before now no_rest.Failed = Rose before now
IsCause before now no_rest.Memory = now ≡ before

-- at most this many bytes were taken
abbrev pub TakesAtMost : ℕ → Option (List ℕ) → Option (List ℕ) → Type 0
TakesAtMost most before now = (moved : List ℕ) × (length moved ≤ most) × Moves before moved now
