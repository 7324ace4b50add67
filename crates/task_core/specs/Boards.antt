-- Boards: a job, the steps that were made, and the state that they lead to.
use Rattle.std.specs.Prelude.{◌≡◌, ◌+◌, ◌≤◌, ℕ, Bool, true, false, List, [], ◌∷◌, ◌++◌, None, Option, Some}
use Rattle.region_tree.specs.declared.tree.OpNumber.{OpNumber}
use Rattle.regent_tree.specs.declared.outcome.Outcome.{Outcome}
use Rattle.task_code.specs.declared.job.Job.{Job}
use Rattle.run_journal.specs.declared.entry.Entry.{Entry}
use Rattle.run_journal.specs.declared.entry.StepKind.{StepKind}
use Rattle.board_terms.specs.declared.operation.Activity.{Activity}
use Rattle.board_terms.specs.declared.operation.Activity.TheVariants as activity
use Rattle.board_terms.specs.Outcomes.{result}
use Rattle.board_terms.specs.Replays.{replay, stepped}
use Rattle.board_terms.specs.States.{State, opened, operation_at}
use Rattle.board_state.specs.Owed.{owed_by}
use Rattle.task_core.specs.declared.answers.Copied.{Copied}
use Rattle.task_core.specs.declared.answers.Copied.TheVariants as copied

-- a board as contracts see it
pub record Standing : Type 0 where
  pub job : Job
  pub journal : List Entry
  pub state : State

-- of a job on which nothing was done
abbrev pub new_standing : Job → Standing
new_standing job = record { job = job; journal = []; state = opened job }

-- ---- steps

abbrev pub step_by : StepKind → OpNumber → ℕ → Entry
step_by kind op seat = record { kind = kind; op = op; seat = seat }

-- one step was made, which the journal tells, and nothing else; there was no outcome yet
pub record HasMade (before : Standing) (e : Entry) (after : Standing) : Type 0 where
  pub job : after.job ≡ before.job
  pub journal : after.journal ≡ before.journal ++ e ∷ []
  pub state : stepped before.job before.state e ≡ Some after.state
  pub unfinished : result before.state ≡ None

-- what an operation does
abbrev pub activity_of : Standing → OpNumber → Activity
activity_of b op = (operation_at b.state op.0).activity

-- what a copy answers, where it was made, by what the operation does behind it
abbrev pub copied_to : Activity → Copied
copied_to (activity.Out claim before) = copied.Start before
copied_to _ = copied.More

abbrev pub copied_as : Bool → Activity → Copied
copied_as false a = copied.Gone
copied_as true a = copied_to a

-- ---- what a board keeps

-- Its state is what its journal leads to for its job, and the outcome that it holds is that of its state. So many
-- steps are owed to open claims.
pub record IsBoard (job : Job) (journal : List Entry) (state : State) (outcome : Option Outcome) (owed : ℕ) : Type 0 where
  pub replayed : replay job journal ≡ Some state
  pub told : outcome ≡ result state
  pub owes : owed ≡ owed_by state.operations

-- the journal takes what is owed without further memory
abbrev pub HasRoom : ℕ → ℕ → ℕ → Type 0
HasRoom entries owed capacity = entries + owed ≤ capacity
