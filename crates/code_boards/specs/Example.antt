-- A job whose start makes a root, calls a child that writes to it, and prints what it wrote; and one whose child
-- needs an empty region alone.
use Rattle.std.specs.Prelude.{◌≡◌, ◌++◌, ℕ, pos, List, [], ◌∷◌, Bool, false, true, Option, Some, None}
use Rattle.lane_kernels.specs.declared.numbers.FieldKind.TheVariants.{Int64}
use Rattle.lane_kernels.specs.declared.numbers.Mode.TheVariants.{Read as reads, Write as writes}
use Rattle.lane_kernels.specs.declared.numbers.Width.TheVariants.{W64}
use Rattle.task_code.specs.declared.job.Job.{Job}
use Rattle.task_code.specs.declared.code.Line.{Line}
use Rattle.task_code.specs.declared.code.TaskCode.{TaskCode}
use Rattle.task_code.specs.declared.instr.Instr.{Instr}
use Rattle.task_code.specs.declared.instr.Instr.TheVariants as instr
use Rattle.task_code.specs.declared.instr.PrintPart.TheVariants as part
use Rattle.board_rules.specs.Boards.{claim, copy, give, is_over, stage_of}
use Rattle.board_rules.specs.Journals.{Outcome, faulted, finished, told, unfinished}
use Rattle.board_rules.specs.NumberedBoards.{Board, Step, board_of}
use Rattle.regent_boards.specs.Frames.{Stop, broken}
use Rattle.regent_boards.specs.RegentMachine.{regent_ground}
use Rattle.code_boards.specs.Laws.{machine_of, main_of, ordered}
use Rattle.code_boards.specs.Views.{spaces_of}

abbrev pub at_line : Instr → Line
at_line i = record { instr = i; line = 1 }

abbrev pub main_task : TaskCode
main_task = record {
  params = 0;
  result = false;
  needs = [];
  slots = 1;
  body = at_line (instr.Num (pos 2)) ∷ at_line instr.Space ∷ at_line (instr.NewRoot 0) ∷ at_line (instr.Store 0)
      ∷ at_line (instr.Load 0) ∷ at_line (instr.Call 1 1) ∷ at_line instr.Drop
      ∷ at_line (instr.Num (pos 1)) ∷ at_line (instr.At 0) ∷ at_line (instr.Read (0 ∷ []) 0)
      ∷ at_line (instr.Print (part.Number ∷ [])) ∷ at_line instr.Return ∷ [];
}

abbrev pub child_task : TaskCode
child_task = record {
  params = 1;
  result = false;
  needs = record { param = 0; field = 0; mode = writes } ∷ [];
  slots = 1;
  body = at_line (instr.Num (pos 42)) ∷ at_line (instr.Num (pos 1)) ∷ at_line (instr.At 0)
      ∷ at_line (instr.Write (0 ∷ []) 0 W64) ∷ at_line instr.Return ∷ [];
}

-- a job of these tasks, with a field space of one field
abbrev pub job_with : List TaskCode → Job
job_with tasks = record {
  code = record {
    tasks = tasks;
    spaces = record { name = []; fields = record { name = []; kind = Int64 } ∷ [] } ∷ [];
    start = 0;
  };
  inputs = [];
  turns = 5;
}

abbrev pub job : Job
job = job_with (main_task ∷ child_task ∷ [])

abbrev pub text_of : Outcome (regent_ground (spaces_of job.code)) → Option (List ℕ)
text_of (finished s a m) = Some s
text_of (faulted s x) = None
text_of unfinished = None

-- the run in order prints 42
abbrev pub OrderPrints : Type 0
OrderPrints = text_of (ordered 20 job main_task) ≡ Some (52 ∷ 50 ∷ [])

-- three seats on the board, one of them before the child has ended
abbrev pub by_seat : ℕ → ℕ → List Step
by_seat seat n = record { kind = claim; number = n; seat = seat } ∷ record { kind = copy; number = n; seat = seat }
    ∷ record { kind = give; number = n; seat = seat } ∷ []

abbrev pub steps : List Step
steps = by_seat 0 0 ++ by_seat 1 0 ++ by_seat 0 0 ++ by_seat 2 1 ++ by_seat 1 1 ++ by_seat 0 0

abbrev pub told_by : Option (Board (regent_ground (spaces_of job.code))) → Option (Bool × List ℕ)
told_by None = None
told_by (Some b) = Some (
  is_over (regent_ground (spaces_of job.code)) (stage_of (regent_ground (spaces_of job.code)) b.state.tree),
  (told (regent_ground (spaces_of job.code)) (machine_of job 0) b.state.tree).text,
)

-- and so does the board
abbrev pub BoardPrints : Type 0
BoardPrints = told_by (board_of (regent_ground (spaces_of job.code)) (machine_of job) (main_of job main_task) steps) ≡ Some (true, 52 ∷ 50 ∷ [])

-- ---- a job whose child needs an empty region alone, and reads another one of the same root

abbrev pub start_task : TaskCode
start_task = record {
  params = 0;
  result = false;
  needs = [];
  slots = 3;
  body = at_line (instr.Num (pos 2)) ∷ at_line instr.Space ∷ at_line (instr.NewRoot 0) ∷ at_line (instr.Store 0)
      ∷ at_line (instr.Num (pos 3)) ∷ at_line instr.Space ∷ at_line (instr.Equal 0) ∷ at_line (instr.Store 1)
      ∷ at_line (instr.Num (pos 0)) ∷ at_line (instr.Child 1) ∷ at_line (instr.Store 2)
      ∷ at_line (instr.Load 2) ∷ at_line (instr.Load 0) ∷ at_line (instr.Call 1 2) ∷ at_line instr.Return ∷ [];
}

abbrev pub reading_task : TaskCode
reading_task = record {
  params = 2;
  result = false;
  needs = record { param = 0; field = 0; mode = reads } ∷ [];
  slots = 2;
  body = at_line (instr.Num (pos 1)) ∷ at_line (instr.At 1) ∷ at_line (instr.Read (1 ∷ []) 0)
      ∷ at_line instr.Drop ∷ at_line instr.Return ∷ [];
}

abbrev pub empty_job : Job
empty_job = job_with (start_task ∷ reading_task ∷ [])

abbrev pub stop_of : Outcome (regent_ground (spaces_of empty_job.code)) → Option Stop
stop_of (finished s a m) = None
stop_of (faulted s x) = Some x
stop_of unfinished = None

-- its run in order is broken, and doesn't wait for ever
abbrev pub EmptyNeedBreaks : Type 0
EmptyNeedBreaks = stop_of (ordered 20 empty_job start_task) ≡ Some broken
