-- Trees in which the operation at a way is changed, and settled with all on the way.
use Rattle.std.specs.Prelude.{ℕ, zero, suc, List, [], ◌∷◌}
use Rattle.board_rules.specs.Boards.{Items, Operation, child_op, no_item, op, said, settle}
use Rattle.board_rules.specs.Ground.{Ground}
use Rattle.board_rules.specs.Processes.{Effect}
use Rattle.board_rules.specs.Running.{Machine}

module _ (G : Ground) where
  -- the operation at a way is changed
  abbrev mutual
    pub edited : List ℕ → (Operation G → Operation G) → Operation G → Operation G
    edited [] g n = g n
    edited (c ∷ way) g (op D N i f ps st is) = op D N i f ps st (edited_among c way g is)

    pub edited_among : ℕ → List ℕ → (Operation G → Operation G) → Items G → Items G
    edited_among c way g no_item = no_item
    edited_among c way g (said t is) = said t (edited_among c way g is)
    edited_among zero way g (child_op n is) = child_op (edited way g n) is
    edited_among (suc c) way g (child_op n is) = child_op n (edited_among c way g is)

  -- what is told of the operation at a way
  abbrev mutual
    pub told_at : List ℕ → (Operation G → List (Effect G)) → Operation G → List (Effect G)
    told_at [] g n = g n
    told_at (c ∷ way) g (op D N i f ps st is) = told_among c way g is

    pub told_among : ℕ → List ℕ → (Operation G → List (Effect G)) → Items G → List (Effect G)
    told_among c way g no_item = []
    told_among c way g (said t is) = told_among c way g is
    told_among zero way g (child_op n is) = told_at way g n
    told_among (suc c) way g (child_op n is) = told_among c way g is

  -- it is settled, and so is each above it, the innermost first
  module _ (M : Machine G) where
    abbrev mutual
      pub up : List ℕ → Operation G → Operation G
      up [] n = settle G M n
      up (c ∷ way) (op D N i f ps st is) = settle G M (op D N i f ps st (up_among c way is))

      pub up_among : ℕ → List ℕ → Items G → Items G
      up_among c way no_item = no_item
      up_among c way (said t is) = said t (up_among c way is)
      up_among zero way (child_op n is) = child_op (up way n) is
      up_among (suc c) way (child_op n is) = child_op n (up_among c way is)
