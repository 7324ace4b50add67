-- The state of a board that a journal leads to.
use Rattle.std.specs.Prelude.{ℕ, List, [], ◌∷◌, Option, Some, None}
use Rattle.task_code.specs.declared.job.Job.{Job}
use Rattle.run_journal.specs.declared.entry.Entry.{Entry}
use Rattle.run_journal.specs.declared.entry.StepKind.{StepKind}
use Rattle.run_journal.specs.declared.entry.StepKind.TheVariants.{Back, Claim, Copy, Give}
use Rattle.board_terms.specs.Claims.{backed, claimed, copied}
use Rattle.board_terms.specs.Gives.{given}
use Rattle.board_terms.specs.States.{State, opened}

abbrev pub step_of : Job → State → ℕ → ℕ → StepKind → Option State
step_of job s k seat Claim = claimed s k seat
step_of job s k seat Copy = copied job.code s k seat
step_of job s k seat Give = given job.code job.turns s k seat
step_of job s k seat Back = backed s k seat

-- where the step may be made, and else nothing
abbrev pub stepped : Job → State → Entry → Option State
stepped job s e = step_of job s e.op.0 e.seat e.kind

abbrev pub on_state : Option State → (State → Option State) → Option State
on_state None f = None
on_state (Some s) f = f s

-- one step after the other
abbrev pub replay_from : Job → Option State → List Entry → Option State
replay_from job o [] = o
replay_from job o (e ∷ es) = replay_from job (on_state o (λ s. stepped job s e)) es

-- from the start of a job; nothing where some step may not be made
abbrev pub replay : Job → List Entry → Option State
replay job journal = replay_from job (Some (opened job)) journal
