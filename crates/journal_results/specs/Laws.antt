-- What a board comes to that a journal leads to.
use Rattle.std.specs.Prelude.{◌≡◌, List, None, Some, cond}
use Rattle.task_code.specs.declared.job.Job.{Job}
use Rattle.machine_terms.specs.Jobs.{order_run}
use Rattle.run_journal.specs.declared.entry.Entry.{Entry}
use Rattle.board_terms.specs.Outcomes.{result}
use Rattle.board_terms.specs.Replays.{replay}
use Rattle.board_terms.specs.Stages.{has_finished}
use Rattle.board_terms.specs.States.{State}

-- Of every job, compiled or not, void or not: whatever steps the seats of its board make, the board has a result exactly
-- once no operation is left that isn't over, and that is the outcome of the job's run in order.
abbrev pub ResultsAreOrdered : Type 0
ResultsAreOrdered = (job : Job) (journal : List Entry) (s : State) → replay job journal ≡ Some s →
    result s ≡ cond (has_finished s) (Some (order_run job)) None
