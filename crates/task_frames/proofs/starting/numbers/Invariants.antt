use Rattle.std.proofs.Common.{◌≡◌, ◌++◌, drop, map}
use Rattle.machine_terms.specs.declared.value.Value.TheVariants.{Number}
use Rattle.task_frames.proofs.starting.numbers.Given as goal

abbrev pub invariant-loop-input : goal.invariant-loop-input
invariant-loop-input l = l.values.items ++ map Number (drop l.input-index l.inputs)
    ≡ map Number l.inputs
