-- Examples: the first fault by place decides, whichever came first in time; what waits for a failed operation
-- is dropped or stopped.
use Rattle.std.specs.Prelude.{◌∷◌, List, Some, []}
use Rattle.board_rules.specs.Ground.{writes}
use Rattle.board_rules.specs.Boards.{claim}
use Rattle.board_rules.specs.Journals.{Entry}
use Rattle.small_machines.specs.Small.{Code, call, ended, failed, hear, need, new_root, nothing, print, set, store}
use Rattle.board_examples.specs.Words.{IsFinished, IsInOrder, IsRefused, point, step, turn}

-- the first child prints and faults with 1, the second faults with 2, the third waits for the second, and
-- main for the third
abbrev pub faulting : Code
faulting = new_root 1 (call nothing (print (failed 1)) (call (need (point 0) writes nothing) (failed 2)
    (call (need (point 0) writes nothing) (set 8 (store (point 0) ended)) (hear 2 (print ended)))))

-- the second child faults before the first
abbrev pub second_faulted : List Entry → List Entry
second_faulted es = turn [] (turn [] (turn [] (turn [] (turn [] (turn (1 ∷ []) es)))))

abbrev pub first_fault_by_place : Type 0
first_fault_by_place = IsFinished faulting (second_faulted (turn (0 ∷ []) [])) (Some 1) (0 ∷ []) × IsInOrder faulting (Some 1) (0 ∷ [])

abbrev pub third_is_dropped : Type 0
third_is_dropped = IsRefused faulting (second_faulted (step claim (2 ∷ []) ∷ []))

abbrev pub main_is_stopped : Type 0
main_is_stopped = IsRefused faulting (second_faulted (step claim [] ∷ []))
