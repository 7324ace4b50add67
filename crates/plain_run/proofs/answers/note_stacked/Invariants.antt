use Rattle.std.proofs.Common.{◌≡◌, ◌++◌, length}
use Rattle.plain_run.specs.Answers.{pendings}
use Rattle.plain_run.proofs.answers.note_stacked.Given as goal

abbrev pub invariant-loop-value : goal.invariant-loop-value
invariant-loop-value l =
    l.pending.items ++ pendings l.rest ≡ l.fn.pending.items ++ pendings l.fn.stack

abbrev pub decreases-loop-value : goal.decreases-loop-value
decreases-loop-value l = length l.rest
