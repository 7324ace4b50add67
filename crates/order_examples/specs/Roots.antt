-- Examples: what roots hold in a run in order.
use Rattle.std.specs.Prelude.{pos, List, [], ◌∷◌, codes}
use Rattle.lane_kernels.specs.declared.numbers.Mode.TheVariants as mode
use Rattle.lane_kernels.specs.declared.numbers.Op.TheVariants.{Sum}
use Rattle.lane_kernels.specs.declared.numbers.Width.TheVariants.{W64}
use Rattle.regent_tree.specs.declared.outcome.Ending.TheVariants.{Broken}
use Rattle.task_code.specs.declared.code.TaskCode.{TaskCode}
use Rattle.task_code.specs.declared.instr.Instr.{Instr}
use Rattle.task_code.specs.declared.instr.Instr.TheVariants as instr
use Rattle.machine_laws.specs.Words.{num, pointer}
use Rattle.order_examples.specs.Words.{task, plain, need, say, say_number, root_in, started, gives, leaves, root_of}

-- a number is added to point 1 of the region in a slot
abbrev pub add_to : List Instr → List Instr
add_to body = instr.Num (pointer 1 1) ∷ instr.Reduce (0 ∷ []) 0 Sum W64 ∷ body

-- main writes 5, and two calls add 3 and 1 to it
abbrev pub reductions_are_folded : Type 0
reductions_are_folded = leaves (started (
    plain 1 (root_in 0 2 (num 5 ∷ instr.Num (pointer 1 1) ∷ instr.Write (0 ∷ []) 0 W64
    ∷ instr.Load 0 ∷ instr.Call 1 1 ∷ instr.Drop ∷ instr.Load 0 ∷ instr.Call 1 1 ∷ instr.Drop
    ∷ instr.Num (pointer 1 1) ∷ instr.Read (0 ∷ []) 0 ∷ say_number ∷ instr.Return ∷ []))
    ∷ task 1 1 (need 0 (mode.Reduce Sum) ∷ [])
    (num 3 ∷ add_to (num 1 ∷ add_to (say (codes ".") ∷ instr.Return ∷ [])))
    ∷ [])) (codes "..13") (root_of 2 (pos 0 ∷ pos 13 ∷ []))

-- A child reads one argument and reduces the other, and both are the same region: it reads what it
-- added.
abbrev pub read_sees_reduction : Type 0
read_sees_reduction = leaves (started (
    plain 1 (root_in 0 2 (instr.Load 0 ∷ instr.Load 0 ∷ instr.Call 1 2 ∷ instr.Return ∷ []))
    ∷ task 2 2 (need 0 mode.Read ∷ need 1 (mode.Reduce Sum) ∷ [])
    (num 3 ∷ instr.Num (pointer 1 1) ∷ instr.Reduce (1 ∷ []) 0 Sum W64
    ∷ instr.Num (pointer 1 1) ∷ instr.Read (0 ∷ []) 0 ∷ say_number ∷ instr.Return ∷ [])
    ∷ [])) (codes "3") (root_of 2 (pos 0 ∷ pos 3 ∷ []))

-- a child makes a root of three points and fills it; main then makes one of one point and writes there
abbrev pub roots_of_child_are_gone : Type 0
roots_of_child_are_gone = leaves (started (
    plain 1 (instr.Call 1 0 ∷ instr.Drop ∷ root_in 0 1 (num 7 ∷ instr.Num (pointer 1 0)
    ∷ instr.Write (0 ∷ []) 0 W64 ∷ instr.Return ∷ []))
    ∷ plain 1 (root_in 0 3 (num 8 ∷ instr.Fill 0 0 W64 ∷ instr.Return ∷ []))
    ∷ [])) [] (root_of 1 (pos 7 ∷ []))

-- Four points in two colours, and those sets again as a partition: of the whole region, or of that of
-- colour 0, which colour 1 leaves.
abbrev pub parting : List Instr → TaskCode
parting parent = plain 3 (root_in 0 4
    (num 2 ∷ instr.Space ∷ instr.Equal 0 ∷ instr.Store 1 ∷ parent))

abbrev pub parted_by : List Instr
parted_by = say (codes "a") ∷ instr.Meet 1 1 2 ∷ say (codes "b") ∷ instr.Return ∷ []

abbrev pub sets_that_leave_break : Type 0
sets_that_leave_break =
    leaves (started (parting (instr.Load 0 ∷ instr.Store 2 ∷ parted_by) ∷ [])) (codes "ab")
    (root_of 4 (pos 0 ∷ pos 0 ∷ pos 0 ∷ pos 0 ∷ []))
    × gives (started (parting (num 0 ∷ instr.Child 1 ∷ instr.Store 2 ∷ parted_by) ∷ [])) (codes "a") Broken
