-- Example: two children that make a root each, on two schedules. The roots have other numbers, the text is the
-- same.
use Rattle.std.specs.Prelude.{◌≡◌, ◌∷◌, List, None, Option, Some, [], ℕ}
use Rattle.board_rules.specs.Boards.{claim, copy, give}
use Rattle.board_rules.specs.Journals.{Outcome, faulted, finished, told, unfinished}
use Rattle.board_rules.specs.NumberedBoards.{Board, Step, board_of}
use Rattle.board_rules.specs.NumberedRuns.{numbered_order_run}
use Rattle.board_rules.specs.Renaming.{ground_over}
use Rattle.small_machines.specs.NumberedMachines.{Code, base, by_number, call, ended, job, load, new_root, none, numbering, print, set, store}

-- each child makes a root, writes a number there and prints it
abbrev pub child_of : ℕ → Code
child_of n = new_root 1 (set n (store 0 0 (set 0 (load 0 0 (print ended)))))

abbrev pub two_makers : Code
two_makers = call none (child_of 7) (call none (child_of 9) ended)

abbrev pub turn : ℕ → List Step → List Step
turn n ss = record { kind = claim; number = n; seat = 0 } ∷ record { kind = copy; number = n; seat = 0 } ∷ record { kind = give; number = n; seat = 0 } ∷ ss

abbrev pub first_first : List Step
first_first = turn 0 (turn 0 (turn 0 (turn 1 (turn 1 (turn 1 (turn 2 (turn 2 (turn 2 []))))))))

abbrev pub second_first : List Step
second_first = turn 0 (turn 0 (turn 2 (turn 2 (turn 2 (turn 1 (turn 1 (turn 1 (turn 0 []))))))))

abbrev pub at_root : Board (ground_over base by_number) → ℕ → ℕ
at_root b n = b.state.map (record { root = n; point = 0 })

-- the text of the board, and the numbers at the first point of roots 0 and 1
abbrev pub Leaves : List Step → List ℕ → ℕ → ℕ → Type 0
Leaves ss t x y = elim (board_of (ground_over base by_number) numbering (job two_makers) ss) [
  | None ↦ ⊥
  | Some b ↦ ((told (ground_over base by_number) (numbering 0) b.state.tree).text ≡ t) × (at_root b 0 ≡ x) × (at_root b 1 ≡ y)
]

abbrev pub text_of : Outcome (ground_over base by_number) → Option (List ℕ)
text_of (finished t a m) = Some t
text_of (faulted t x) = None
text_of unfinished = None

abbrev pub roots_by_schedule : Type 0
roots_by_schedule = Leaves first_first (7 ∷ 9 ∷ []) 7 9 × Leaves second_first (7 ∷ 9 ∷ []) 9 7
    × (text_of (numbered_order_run (ground_over base by_number) numbering 9 (job two_makers)) ≡ Some (7 ∷ 9 ∷ []))
