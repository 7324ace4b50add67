use Rattle.std.proofs.Common.{◌≡◌, ◌++◌, drop}
use Rattle.plain_run.specs.Answers.{pendings}
use Rattle.plain_run.proofs.answers.note_all.Given as goal

abbrev pub invariant-loop-value : goal.invariant-loop-value
invariant-loop-value l = l.pending.items ++ pendings (drop l.value-index l.values) ≡ l.fn.pending.items ++ pendings l.fn.values
