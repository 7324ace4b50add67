-- A board that isn't finished and has no claim out has a ready operation.
use Rattle.std.specs.Prelude.{◌≡◌, ◌||◌, Bool, List, Some, [], false, is_some, true, ℕ}
use Rattle.board_rules.specs.Ground.{Ground}
use Rattle.board_rules.specs.Running.{Machine}
use Rattle.board_rules.specs.Boards.{Items, Operation, Stage, claim, filling, is_over, child_op, no_item, op, out, said, stage_of, step_in}
use Rattle.board_rules.specs.Journals.{Entry, Job, State, replay}

module _ (G : Ground) where
  abbrev pub is_claimed : Stage G → Bool
  is_claimed (filling w d l) = true
  is_claimed (out w d) = true
  is_claimed _ = false

  abbrev mutual
    -- some operation is claimed
    pub claims_in : Operation G → Bool
    claims_in (op D N i f ps st is) = is_claimed st || claims_among is

    pub claims_among : Items G → Bool
    claims_among no_item = false
    claims_among (said t is) = claims_among is
    claims_among (child_op n is) = claims_in n || claims_among is

  abbrev pub SomeReady : Machine G → Type 0
  SomeReady M = (job : Job G) (journal : List Entry) (s : State G) → replay G M job journal ≡ Some s → is_over G (stage_of G s.tree) ≡ false → claims_in s.tree ≡ false →
      (way : List ℕ) × (is_some (step_in G M claim way [] true s.map s.tree) ≡ true)
