use Rattle.std.proofs.Common.{◌≡◌, map}
use Rattle.machine_terms.specs.Orders.{settled}
use Rattle.task_frames.proofs.settling.settled.Given as goal

abbrev pub invariant-loop-value : goal.invariant-loop-value
invariant-loop-value l = l.after.items ≡ map (settled l.child l.number) l.yielded
