use Rattle.std.proofs.Common.{◌≡◌}
use Rattle.task_machine.specs.Acts.{machine_at}
use Rattle.machine_terms.specs.Segments.{stop_from}
use Rattle.machine_terms.proofs.Ending.{steps_left}
use Rattle.task_machine.proofs.running.Running.run.Given as goal

abbrev pub invariant-loop-line : goal.invariant-loop-line
invariant-loop-line l = stop_from l.code l.body l.self.text (machine_at l.pc l.self)
    ≡ stop_from l.fn.code l.fn.body l.fn.self.text (machine_at l.fn.from l.fn.self)

abbrev pub decreases-loop-line : goal.decreases-loop-line
decreases-loop-line l = steps_left l.code l.body (machine_at l.pc l.self)
