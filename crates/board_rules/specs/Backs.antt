-- A claim that is taken back leaves the board as it was.
use Rattle.std.specs.Prelude.{◌≡◌, ◌++◌, ◌∷◌, List, Some, [], suc, zero, ℕ}
use Rattle.board_rules.specs.Ground.{Ground}
use Rattle.board_rules.specs.Running.{Machine}
use Rattle.board_rules.specs.Boards.{back, claim, copy}
use Rattle.board_rules.specs.Journals.{Entry, Job, State, replay}

abbrev pub copies : List ℕ → ℕ → List Entry
copies way zero = []
copies way (suc n) = record { kind = copy; way = way } ∷ copies way n

-- an operation is claimed, and so many copies are made for it
abbrev pub claimed : List ℕ → ℕ → List Entry
claimed way n = record { kind = claim; way = way } ∷ copies way n

module _ (G : Ground) where
  -- After a claim and any number of copies that are all possible, a back is possible, and the state behind
  -- it is that before the claim.
  abbrev pub TakenBack : Machine G → Type 0
  TakenBack M = (job : Job G) (journal : List Entry) (s u : State G) (way : List ℕ) (n : ℕ) → replay G M job journal ≡ Some s →
      replay G M job (journal ++ claimed way n) ≡ Some u →
      replay G M job (journal ++ claimed way n ++ record { kind = back; way = way } ∷ []) ≡ Some s
