-- The run in order of a job is that of the machine.
use Rattle.std.specs.Prelude.{◌≡◌, ℕ, List, [], Some, map, slice_get, true}
use Rattle.std.specs.List.Sorted.{IsStrictlyIncreasing}
use Rattle.task_code.specs.declared.code.TaskCode.{TaskCode}
use Rattle.task_code.specs.declared.job.Job.{Job}
use Rattle.machine_terms.specs.Jobs.{may_start, order_run}
use Rattle.board_rules.specs.ByNumber.{made_in_order}
use Rattle.regent_boards.specs.Laws.{by_maker, to_makers}
use Rattle.regent_boards.specs.RegentMachine.{base, regent_roots, who_of}
use Rattle.code_boards.specs.Laws.{machine_of, main_of, ordered, room}
use Rattle.code_boards.specs.Views.{board_segment, spaces_of}
use Rattle.order_boards.specs.Outcomes.{AreMadeBy, IsOutcome}

-- the first task made these roots in the run in order, one after the other, as these of its makings
abbrev pub AreOfFirstTask : Job → TaskCode → List ℕ → List ℕ → Type 0
AreOfFirstTask job t roots makings = IsStrictlyIncreasing (map who_of roots) × AreMadeBy [] (made_in_order base (regent_roots (spaces_of job.code)) (regent_roots (spaces_of job.code)) (machine_of job)
    (by_maker (spaces_of job.code) (board_segment job.code job.turns)) (to_makers (spaces_of job.code) (board_segment job.code job.turns)) (room job) (main_of job t)) roots makings

-- Of each job that isn't void: the run that the machine's definition gives has the outcome of the run by numbers of
-- which the laws of boards speak.
abbrev pub OrderRunsAgree : Type 0
OrderRunsAgree = (job : Job) (t : TaskCode) → slice_get job.code.tasks job.code.start ≡ Some t → may_start job t ≡ true →
    (roots : List ℕ) × (makings : List ℕ) × AreOfFirstTask job t roots makings × IsOutcome (spaces_of job.code) roots makings (ordered (room job) job t) (order_run job)
