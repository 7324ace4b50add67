-- Examples: children that end out of order, and reductions that go back in another order than they were called.
use Rattle.std.specs.Prelude.{◌∷◌, List, None, []}
use Rattle.board_rules.specs.Ground.{reduces, writes}
use Rattle.board_rules.specs.Boards.{back, claim, copy, give}
use Rattle.board_rules.specs.Journals.{Entry}
use Rattle.small_machines.specs.Small.{Code, call, ended, greatest, load, need, new_root, nothing, print, set, store, sum}
use Rattle.board_examples.specs.Words.{IsFinished, IsInOrder, IsRefused, point, step, turn}

-- A root of two points; the first child writes 7 at one and prints, the second 9 at the other; main
-- reads both.
abbrev pub two : Code
two = new_root 2 (call (need (point 0) writes nothing) (set 7 (store (point 0) (print ended)))
    (call (need (point 1) writes nothing) (set 9 (store (point 1) (print ended))) (load (point 0) (print (load (point 1) (print ended))))))

-- the second child asks for its part, is filled and given before the first begins, whose first claim is
-- taken back
abbrev pub two_out_of_order : List Entry
two_out_of_order = turn [] (turn [] (turn [] (
    turn (1 ∷ []) (turn (1 ∷ []) (turn (0 ∷ []) (
    step claim (0 ∷ []) ∷ step back (0 ∷ []) ∷ turn (0 ∷ []) (turn [] (turn [] (turn [] [])))))))))

abbrev pub children_out_of_order : Type 0
children_out_of_order = IsFinished two two_out_of_order None (7 ∷ 9 ∷ 7 ∷ 9 ∷ []) × IsInOrder two None (7 ∷ 9 ∷ 7 ∷ 9 ∷ [])

-- two children add at one point, and a third takes the greatest there
abbrev pub reducing : Code
reducing = new_root 1 (call (need (point 0) (reduces sum) nothing) (set 3 (store (point 0) ended))
    (call (need (point 0) (reduces sum) nothing) (set 4 (store (point 0) ended))
    (call (need (point 0) (reduces greatest) nothing) (set 5 (store (point 0) ended)) (load (point 0) (print ended)))))

abbrev pub reducing_begun : List Entry → List Entry
reducing_begun es = turn [] (turn [] (turn [] (turn [] es)))

-- both that add are filled before one is given, and the second ends first
abbrev pub reducing_journal : List Entry
reducing_journal = reducing_begun (turn (0 ∷ []) (turn (1 ∷ []) (
    step claim (0 ∷ []) ∷ step copy (0 ∷ []) ∷ step claim (1 ∷ []) ∷ step copy (1 ∷ []) ∷ step give (1 ∷ []) ∷ step give (0 ∷ [])
    ∷ turn (2 ∷ []) (turn (2 ∷ []) (turn [] (turn [] []))))))

abbrev pub reductions_in_any_order : Type 0
reductions_in_any_order = IsFinished reducing reducing_journal None (7 ∷ []) × IsInOrder reducing None (7 ∷ [])

-- another operator interferes
abbrev pub other_operator_waits : Type 0
other_operator_waits = IsRefused reducing (reducing_begun (step claim (2 ∷ []) ∷ []))
