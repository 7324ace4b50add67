-- Examples: calls in a run in order.
use Rattle.std.specs.Prelude.{ℕ, zero, suc, pos, List, [], ◌∷◌, ◌++◌, codes}
use Rattle.lane_kernels.specs.declared.numbers.Mode.TheVariants as mode
use Rattle.regent_tree.specs.declared.outcome.Ending.TheVariants.{Finished, Faulted, Broken}
use Rattle.regent_tree.specs.declared.outcome.FaultKind.TheVariants.{Turns, Depth, AssertFailed}
use Rattle.task_code.specs.declared.code.NeedCode.{NeedCode}
use Rattle.task_code.specs.declared.code.TaskCode.{TaskCode}
use Rattle.task_code.specs.declared.job.Job.{Job}
use Rattle.task_code.specs.declared.instr.Instr.{Instr}
use Rattle.task_code.specs.declared.instr.Instr.TheVariants as instr
use Rattle.machine_laws.specs.Words.{num, pointer}
use Rattle.order_examples.specs.Words.{task, plain, need, say, say_number, root_in, started, gives, leaves, root_of}

-- ---- needs

-- main makes a root of two points, prints an a and calls a task on it
abbrev pub passing_root : List TaskCode → Job
passing_root called = started (plain 2 (root_in 0 2
    (say (codes "a") ∷ instr.Load 0 ∷ instr.Call 1 1 ∷ instr.Return ∷ [])) ∷ called)

-- A child that needs to read may call one that needs to read, and none that needs to write.
abbrev pub handing_on : NeedCode → Job
handing_on n = passing_root (
    task 1 1 (need 0 mode.Read ∷ [])
    (say (codes "b") ∷ instr.Load 0 ∷ instr.Call 2 1 ∷ say (codes "d") ∷ instr.Return ∷ [])
    ∷ task 1 1 (n ∷ []) (say (codes "c") ∷ instr.Return ∷ [])
    ∷ [])

abbrev pub greater_needs_break : Type 0
greater_needs_break = leaves (handing_on (need 0 mode.Read)) (codes "abcd") (root_of 2 (pos 0 ∷ pos 0 ∷ []))
    × gives (handing_on (need 0 mode.Write)) (codes "ab") Broken

-- a need of a number, and of a field that isn't there
abbrev pub void_needs_break : Type 0
void_needs_break = gives (started (
    plain 0 (say (codes "a") ∷ num 0 ∷ instr.Call 1 1 ∷ instr.Return ∷ [])
    ∷ task 1 1 (need 0 mode.Read ∷ []) (say (codes "b") ∷ instr.Return ∷ []) ∷ [])) (codes "a") Broken
    × gives (passing_root (task 1 1 (record { param = 0; field = 1; mode = mode.Read } ∷ [])
    (say (codes "b") ∷ instr.Return ∷ []) ∷ [])) (codes "a") Broken

-- Two points in three colours: colour 0 has none. A child needs its region, and is given the root too.
abbrev pub with_no_points : List Instr → Job
with_no_points body = started (
    plain 3 (root_in 0 2 (num 3 ∷ instr.Space ∷ instr.Equal 0 ∷ instr.Store 1
    ∷ num 0 ∷ instr.Child 1 ∷ instr.Load 0 ∷ say (codes "a") ∷ instr.Call 1 2
    ∷ say (codes "c") ∷ instr.Return ∷ []))
    ∷ task 2 2 (need 0 mode.Read ∷ []) (say (codes "b") ∷ body) ∷ [])

-- no point may be read then
abbrev pub no_points_are_needed : Type 0
no_points_are_needed =
    leaves (with_no_points (instr.Return ∷ [])) (codes "abc") (root_of 2 (pos 0 ∷ pos 0 ∷ []))
    × gives (with_no_points (instr.Num (pointer 1 1) ∷ instr.Read (1 ∷ []) 0 ∷ instr.Return ∷ []))
    (codes "ab") Broken

-- ---- slots, values, turns and depth

abbrev pub narrow_task_breaks : Type 0
narrow_task_breaks = gives (started (
    plain 0 (say (codes "a") ∷ num 1 ∷ instr.Call 1 1 ∷ say (codes "b") ∷ instr.Return ∷ [])
    ∷ task 1 0 [] (say (codes "c") ∷ instr.Return ∷ []) ∷ [])) (codes "a") Broken

-- main prints what its child gave
abbrev pub telling : List Instr → Job
telling body = started (
    plain 1 (instr.Call 1 0 ∷ instr.Store 0 ∷ instr.Load 0 ∷ say_number ∷ instr.Return ∷ [])
    ∷ plain 0 body ∷ [])

-- no value counts as 0
abbrev pub values_come_back : Type 0
values_come_back = gives (telling (num 7 ∷ instr.ReturnValue ∷ [])) (codes "7") (Finished [])
    × gives (telling (instr.Return ∷ [])) (codes "0") (Finished [])

-- Two turns are enough for two calls and for two turns in each child, and not for a third call.
abbrev pub turns_are_fresh : Type 0
turns_are_fresh = gives (started (
    plain 0 (instr.Call 1 0 ∷ instr.Call 1 0 ∷ say (codes "e") ∷ instr.Call 1 0 ∷ instr.Return ∷ [])
    ∷ plain 0 (instr.Turn ∷ instr.Turn ∷ say (codes "c") ∷ instr.Return ∷ []) ∷ []))
    (codes "cce") (Faulted (record { kind = Turns; line = 4 }))

abbrev pub so_many : ℕ → List ℕ → List ℕ
so_many zero text = []
so_many (suc n) text = text ++ so_many n text

-- a task that calls itself prints 64 times, and its call at depth 64 faults
abbrev pub depth_has_a_limit : Type 0
depth_has_a_limit = gives (started (
    plain 0 (say (codes ".") ∷ instr.Call 0 0 ∷ say (codes "n") ∷ instr.Return ∷ []) ∷ []))
    (so_many 64 (codes ".")) (Faulted (record { kind = Depth; line = 2 }))

-- the fault of a child is the outcome, on the child's line
abbrev pub fault_of_child_decides : Type 0
fault_of_child_decides = gives (started (
    plain 0 (say (codes "a") ∷ instr.Call 1 0 ∷ say (codes "b") ∷ instr.Return ∷ [])
    ∷ plain 0 (say (codes "c") ∷ num 0 ∷ instr.Assert ∷ instr.Return ∷ []) ∷ []))
    (codes "ac") (Faulted (record { kind = AssertFailed; line = 3 }))
