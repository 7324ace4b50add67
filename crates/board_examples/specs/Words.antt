-- Words of the examples: a job of a program, and the steps of its journals.
use Rattle.std.specs.Prelude.{◌≡◌, ◌∷◌, List, None, Option, Some, [], refl, true, ℕ}
use Rattle.board_rules.specs.Boards.{Kind, claim, copy, give, is_over, stage_of}
use Rattle.board_rules.specs.Journals.{Entry, Job, Outcome, faulted, finished, order_run, outcome, replay, unfinished}
use Rattle.small_machines.specs.Small.{Code, Location, nothing, small_ground, small_machine}

abbrev pub job : Code → Job small_ground
job c = record { frame = record { code = c; number = 0 }; needs = nothing; map = λ l. 0; needs_nothing = λ l. refl }

-- a point of the first root that main makes
abbrev pub point : ℕ → Location
point x = record { maker = []; making = 0; point = x }

abbrev pub step : Kind → List ℕ → Entry
step k w = record { kind = k; way = w }

-- a claim, a copy and a give of one operation
abbrev pub turn : List ℕ → List Entry → List Entry
turn w es = step claim w ∷ step copy w ∷ step give w ∷ es

abbrev pub tells : Outcome small_ground → Option ℕ → List ℕ → Type 0
tells (finished t a m) x u = (None ≡ x) × (t ≡ u)
tells (faulted t y) x u = (Some y ≡ x) × (t ≡ u)
tells unfinished x u = ⊥

-- the journal leads to a finished board with this fault and text
abbrev pub IsFinished : Code → List Entry → Option ℕ → List ℕ → Type 0
IsFinished c es x t = elim (replay small_ground small_machine (job c) es) [
  | None ↦ ⊥
  | Some s ↦ (is_over small_ground (stage_of small_ground s.tree) ≡ true) × tells (outcome small_ground small_machine s) x t
]

-- the run in order, for nine segments, has this fault and text
abbrev pub IsInOrder : Code → Option ℕ → List ℕ → Type 0
IsInOrder c x t = tells (order_run small_ground small_machine 9 (job c)) x t

-- the last step of the journal isn't possible
abbrev pub IsRefused : Code → List Entry → Type 0
IsRefused c es = replay small_ground small_machine (job c) es ≡ None
