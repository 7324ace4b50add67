-- A board whose roots are numbers in order of making: the number of a new root is how many were made
-- before it on the whole board, which the schedule decides.
use Rattle.std.specs.Prelude.{◌+◌, ◌∷◌, List, None, Option, Some, [], suc, true, zero, ℕ}
use Rattle.board_rules.specs.Ground.{Ground}
use Rattle.board_rules.specs.Running.{Machine}
use Rattle.board_rules.specs.Boards.{Items, Operation, child_op, no_item, op, said, step_in}
use Rattle.board_rules.specs.Journals.{Entry, Job, State, opened, stepped}

module _ (G : Ground) (M : ℕ → Machine G) where
  abbrev mutual
    -- how many makings there were
    pub made_in : Operation G → ℕ
    made_in (op D N i f ps st is) = i + made_among is

    pub made_among : Items G → ℕ
    made_among no_item = 0
    made_among (said t is) = made_among is
    made_among (child_op n is) = made_in n + made_among is

  abbrev pub after_numbered : Option (State G) → Entry → Option (State G)
  after_numbered None e = None
  after_numbered (Some s) e = stepped G (M (made_in s.tree)) s.map (step_in G (M (made_in s.tree)) e.kind e.way [] true s.map s.tree)

  abbrev pub all_numbered : Option (State G) → List Entry → Option (State G)
  all_numbered o [] = o
  all_numbered o (e ∷ es) = all_numbered (after_numbered o e) es

  abbrev pub replay_numbered : Job G → List Entry → Option (State G)
  replay_numbered job journal = all_numbered (Some (opened G (M 0) job)) journal

  -- ---- the names of the roots that a journal makes

  abbrev mutual
    -- the makings of the operation to which a way leads
    pub count_at : List ℕ → Operation G → ℕ
    count_at [] (op D N i f ps st is) = i
    count_at (c ∷ way) (op D N i f ps st is) = count_among c way is

    pub count_among : ℕ → List ℕ → Items G → ℕ
    count_among c way no_item = 0
    count_among c way (said t is) = count_among c way is
    count_among zero way (child_op n is) = count_at way n
    count_among (suc c) way (child_op n is) = count_among c way is

  -- a way turned round onto a place: its places, innermost first
  abbrev pub turned_onto : List ℕ → List ℕ → List ℕ
  turned_onto [] p = p
  turned_onto (c ∷ way) p = turned_onto way (c ∷ p)
