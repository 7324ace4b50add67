-- A job whose start divides a root into two regions, and calls a task on each: both print and fault. Whichever
-- is given back first, the outcome is that of the one that was called first.
use Rattle.std.specs.Prelude.{◌≡◌, ◌++◌, ℕ, pos, List, [], ◌∷◌, false, Option, Some, None}
use Rattle.std.specs.Option.{option_map}
use Rattle.lane_kernels.specs.declared.numbers.FieldKind.TheVariants.{Int64}
use Rattle.lane_kernels.specs.declared.numbers.Mode.TheVariants.{Write}
use Rattle.lane_kernels.specs.declared.numbers.Width.TheVariants.{W64}
use Rattle.regent_tree.specs.declared.outcome.Ending.TheVariants.{Faulted}
use Rattle.regent_tree.specs.declared.outcome.FaultKind.TheVariants.{DivideByZero}
use Rattle.regent_tree.specs.declared.outcome.Outcome.{Outcome}
use Rattle.task_code.specs.declared.job.Job.{Job}
use Rattle.task_code.specs.declared.code.Line.{Line}
use Rattle.task_code.specs.declared.code.NeedCode.{NeedCode}
use Rattle.task_code.specs.declared.code.TaskCode.{TaskCode}
use Rattle.task_code.specs.declared.instr.Instr.{Instr}
use Rattle.task_code.specs.declared.instr.Instr.TheVariants as instr
use Rattle.task_code.specs.declared.instr.PrintPart.TheVariants.{Text}
use Rattle.run_journal.specs.declared.entry.Entry.{Entry}
use Rattle.run_journal.specs.declared.entry.StepKind.{StepKind}
use Rattle.run_journal.specs.declared.entry.StepKind.TheVariants.{Back, Claim, Copy, Give}
use Rattle.board_terms.specs.Outcomes.{result}
use Rattle.board_terms.specs.Replays.{replay}
use Rattle.board_terms.specs.Stages.{Stage, dropped, stage_at}
use Rattle.board_terms.specs.States.{State}

abbrev pub at : ℕ → Instr → Line
at line i = record { instr = i; line = line }

abbrev pub task_with : ℕ → List NeedCode → ℕ → List Line → TaskCode
task_with params needs slots body =
    record { params = params; result = false; needs = needs; slots = slots; body = body }

abbrev pub writes_first : List NeedCode
writes_first = record { param = 0; field = 0; mode = Write } ∷ []

-- makes a root and divides it into two; the first task is called on the region in one slot, the second on that in another
abbrev pub calls_on : ℕ → ℕ → TaskCode
calls_on one other = task_with 0 [] 4 (
    at 14 (instr.Num (pos 2)) ∷ at 14 instr.Space ∷ at 14 (instr.NewRoot 0) ∷ at 14 (instr.Store 0)
    ∷ at 15 (instr.Num (pos 2)) ∷ at 15 instr.Space ∷ at 15 (instr.Equal 0) ∷ at 15 (instr.Store 1)
    ∷ at 16 (instr.Num (pos 0)) ∷ at 16 (instr.Child 1) ∷ at 16 (instr.Store 2) ∷ at 16 (instr.Load one)
    ∷ at 16 (instr.Call 1 1) ∷ at 16 instr.Drop
    ∷ at 16 (instr.Num (pos 1)) ∷ at 16 (instr.Child 1) ∷ at 16 (instr.Store 3) ∷ at 16 (instr.Load other)
    ∷ at 16 (instr.Call 2 1) ∷ at 16 instr.Drop ∷ at 16 instr.Return ∷ [])

-- prints a, and divides by the zero that its region holds
abbrev pub first_task : TaskCode
first_task = task_with 1 writes_first 1 (
    at 4 (instr.Print (Text (97 ∷ []) ∷ [])) ∷ at 6 (instr.Num (pos 1)) ∷ at 6 (instr.Num (pos 0)) ∷ at 6 (instr.At 0)
    ∷ at 6 (instr.Read (0 ∷ []) 0) ∷ at 6 (instr.Div W64) ∷ at 6 instr.Drop ∷ at 7 instr.Return ∷ [])

-- prints b, and asserts what isn't so
abbrev pub second_task : TaskCode
second_task = task_with 1 writes_first 1 (
    at 10 (instr.Print (Text (98 ∷ []) ∷ [])) ∷ at 11 (instr.Num (pos 0)) ∷ at 11 instr.Assert ∷ at 12 instr.Return ∷ [])

abbrev pub job_of : TaskCode → Job
job_of main = record {
  code = record {
    tasks = main ∷ first_task ∷ second_task ∷ [];
    spaces = record { name = []; fields = record { name = []; kind = Int64 } ∷ [] } ∷ [];
    start = 0;
  };
  inputs = [];
  turns = 5;
}

-- on the two parts, which share no point
abbrev pub job : Job
job = job_of (calls_on 2 3)

-- both on the whole root
abbrev pub whole_job : Job
whole_job = job_of (calls_on 0 0)

abbrev pub entry : StepKind → ℕ → ℕ → Entry
entry kind op seat = record { kind = kind; op = record { 0 = op }; seat = seat }

-- a segment of an operation by a seat
abbrev pub segment_by : ℕ → ℕ → List Entry
segment_by op seat = entry Claim op seat ∷ entry Copy op seat ∷ entry Give op seat ∷ []

-- main makes the root and the partition, calls both tasks and comes to its end
abbrev pub main_runs : List Entry
main_runs = segment_by 0 0 ++ segment_by 0 1 ++ segment_by 0 0 ++ segment_by 0 0 ++ segment_by 0 0

-- Then the second task by one seat, a claim on the first that
-- is taken back, and the first task by another seat, which wants its region before it can divide.
abbrev pub second_before : List Entry
second_before = main_runs ++ segment_by 2 1 ++ entry Claim 1 0 ∷ entry Back 1 0 ∷ segment_by 1 0 ++ segment_by 1 1

-- or the first task to its end, and then the second
abbrev pub first_before : List Entry
first_before = main_runs ++ segment_by 1 0 ++ segment_by 1 1 ++ segment_by 2 1

abbrev pub result_of : Option State → Option Outcome
result_of None = None
result_of (Some s) = result s

-- the outcome is that of the run in order: a, and the division
abbrev pub divided : Outcome
divided = record { text = 97 ∷ []; ending = Faulted (record { kind = DivideByZero; line = 6 }) }

abbrev pub FirstFaultDecides : Type 0
FirstFaultDecides = (result_of (replay job second_before) ≡ Some divided) × (result_of (replay job first_before) ≡ Some divided)

-- before the first task has failed there is no result
abbrev pub NoResultBefore : Type 0
NoResultBefore = result_of (replay job (main_runs ++ segment_by 2 1)) ≡ None

-- On the whole root the second task waits for the first, and is dropped when that fails.
abbrev pub MayNotBegin : Type 0
MayNotBegin = replay whole_job (main_runs ++ entry Claim 2 1 ∷ []) ≡ None

abbrev pub stage_with : ℕ → Option State → Option (Stage × Option Outcome)
stage_with k o = option_map (λ (s : State). (stage_at s k, result s)) o

abbrev pub WaitingIsDropped : Type 0
WaitingIsDropped = stage_with 2 (replay whole_job (main_runs ++ segment_by 1 0 ++ segment_by 1 1)) ≡ Some (dropped, Some divided)

-- an operation that is out can't be claimed, and a seat gives back its own claim alone
abbrev pub OthersMayNot : Type 0
OthersMayNot = (result_of (replay job (entry Claim 0 0 ∷ entry Claim 0 1 ∷ [])) ≡ None)
    × (replay job (entry Claim 0 0 ∷ entry Copy 0 0 ∷ entry Give 0 1 ∷ []) ≡ None)
