use Rattle.std.proofs.Common.{◌≡◌, ◌++◌, drop}
use Rattle.machine_terms.specs.Opening.{needs_on}
use Rattle.task_frames.proofs.needs.needs_on.Given as goal

abbrev pub invariant-loop-need : goal.invariant-loop-need
invariant-loop-need l = l.needs.items ++ needs_on (drop l.need-index l.declared) l.values
    ≡ needs_on l.declared l.values
