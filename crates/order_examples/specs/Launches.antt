-- Examples: launches in a run in order.
use Rattle.std.specs.Prelude.{ℕ, pos, List, [], ◌∷◌, codes}
use Rattle.index_launch.specs.declared.points.LaunchArg.TheVariants as launch
use Rattle.regent_tree.specs.declared.outcome.Ending.TheVariants.{Faulted}
use Rattle.regent_tree.specs.declared.outcome.FaultKind.{FaultKind}
use Rattle.regent_tree.specs.declared.outcome.FaultKind.TheVariants.{AssertFailed, BadColor, Turns}
use Rattle.task_code.specs.declared.instr.Instr.{Instr}
use Rattle.task_code.specs.declared.instr.Instr.TheVariants as instr
use Rattle.task_code.specs.declared.job.Job.{Job}
use Rattle.machine_laws.specs.Words.{num}
use Rattle.order_examples.specs.Words.{gives, leaves, plain, root_in, root_of, say, started, task}

-- Main makes a root of two points and an equal partition of two parts, prints an a, calls a task for each of so
-- many colours with the part and the colour, and prints a z. The launch's call is on line 40.
abbrev pub launching : ℕ → ℕ → List Instr → Job
launching n turns body = record (started (
    plain 3 (root_in 0 2 (num 2 ∷ instr.Space ∷ instr.Equal 0 ∷ instr.Store 1
    ∷ num n ∷ instr.Space ∷ instr.Store 2 ∷ say (codes "a")
    ∷ instr.Launch 1 2 40 (launch.Child 1 ∷ launch.Point ∷ []) ∷ say (codes "z") ∷ instr.Return ∷ []))
    ∷ task 2 2 [] body ∷ [])) { turns = turns }

-- each call prints a c
abbrev pub printing : List Instr
printing = say (codes "c") ∷ instr.Return ∷ []

abbrev pub each_call_runs : Type 0
each_call_runs =
    leaves (launching 2 4 printing) (codes "accz") (root_of 2 (pos 0 ∷ pos 0 ∷ []))
    × leaves (launching 0 0 printing) (codes "az") (root_of 2 (pos 0 ∷ pos 0 ∷ []))

-- a fault at the last colour, at the first one, and at one between: the calls before it run
abbrev pub faults : ℕ → ℕ → List ℕ → FaultKind → ℕ → Type 0
faults n turns text kind line =
    gives (launching n turns printing) text (Faulted (record { kind = kind; line = line }))

abbrev pub calls_run_before_the_fault : Type 0
calls_run_before_the_fault = faults 3 9 (codes "acc") BadColor 40 × faults 3 0 (codes "a") Turns 13
    × faults 3 1 (codes "a") Turns 40 × faults 3 2 (codes "ac") Turns 13
    × faults 3 3 (codes "ac") Turns 40

-- a call that faults decides before the fault that the launch met; that of colour 1 does
abbrev pub fault_of_call_decides : Type 0
fault_of_call_decides = gives
    (launching 3 9 (say (codes "c") ∷ instr.Load 1 ∷ instr.Not ∷ instr.Assert ∷ instr.Return ∷ []))
    (codes "acc") (Faulted (record { kind = AssertFailed; line = 4 }))
