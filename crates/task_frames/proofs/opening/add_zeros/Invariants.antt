use Rattle.std.proofs.Common.{◌≡◌, ◌++◌, pos, replicate}
use Rattle.machine_terms.specs.declared.value.Value.TheVariants.{Number}
use Rattle.task_frames.proofs.opening.add_zeros.Given as goal

abbrev pub invariant-loop-place : goal.invariant-loop-place
invariant-loop-place l = l.slots ≡ l.initial.slots ++ replicate l._place (Number (pos 0))
