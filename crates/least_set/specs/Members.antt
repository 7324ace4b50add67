-- A set of numbers as a list of flags: whether each number below its room is in it.
use Rattle.std.specs.Prelude.{◌≡◌, ◌<◌, ℕ, Bool, true, false, List, get_or}

-- whether a number is in a set; those past its room aren't
abbrev pub has : List Bool → ℕ → Bool
has flags k = get_or flags k false

-- a number is in the set, and none below it is
pub record IsLeast (flags : List Bool) (k : ℕ) : Type 0 where
  pub member : has flags k ≡ true
  pub least : (j : ℕ) → j < k → has flags j ≡ false
