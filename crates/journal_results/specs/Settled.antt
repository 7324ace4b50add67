-- What a board tells before it has finished.
use Rattle.std.specs.Prelude.{◌≡◌, List, Some}
use Rattle.regent_tree.specs.declared.outcome.Outcome.{Outcome}
use Rattle.task_code.specs.declared.job.Job.{Job}
use Rattle.machine_terms.specs.Jobs.{order_run}
use Rattle.run_journal.specs.declared.entry.Entry.{Entry}
use Rattle.board_terms.specs.Replays.{replay}
use Rattle.board_terms.specs.Settled.{settled}
use Rattle.board_terms.specs.States.{State}

-- Of every job, compiled or not, void or not, and whatever steps the seats of its board make: where a fault comes before all
-- that isn't over, the outcome that it settles is that of the job's run in order, whatever the seats would do next.
abbrev pub SettledIsOrdered : Type 0
SettledIsOrdered = (job : Job) (journal : List Entry) (s : State) (o : Outcome) → replay job journal ≡ Some s → settled s ≡ Some o → order_run job ≡ o
