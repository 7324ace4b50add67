-- What the books under a hub's lock tell of its board.
use Rattle.std.specs.Prelude.{◌≡◌, ◌<◌, ℕ, length}
use Rattle.task_core.specs.Boards.{Standing}
use Rattle.task_hub.specs.Answers.{HasResult}

-- the journal has an entry for each step of a seat, and there is a result where any seat was told that all is over
pub record IsBooked (b : Standing) (steps overs : ℕ) : Type 0 where
  pub counted : length b.journal ≡ steps
  pub told : 0 < overs → HasResult b
