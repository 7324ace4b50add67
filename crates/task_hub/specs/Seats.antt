-- Seats at a hub.
use Rattle.std.specs.Prelude.{ℕ, List, map, sum_by}
use Rattle.task_core.specs.Desks.{Seated}

-- a seat by its number, and what a desk shows of it
pub record Placed : Type 0 where
  pub number : ℕ
  pub seated : Seated

-- it was told that all is over
abbrev pub as_told : Seated → Seated
as_told s = record s { overs = 1 }

-- their numbers
abbrev pub numbers_of : List Placed → List ℕ
numbers_of ss = map (λ (s : Placed). s.number) ss

-- the steps of all seats
abbrev pub steps_of : List Placed → ℕ
steps_of ss = sum_by (λ (s : Placed). s.seated.steps) ss

-- how many seats were told that all is over
abbrev pub overs_of : List Placed → ℕ
overs_of ss = sum_by (λ (s : Placed). s.seated.overs) ss
