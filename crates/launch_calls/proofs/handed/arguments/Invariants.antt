use Rattle.std.proofs.Common.{◌≡◌, drop}
use Rattle.machine_terms.specs.Launches.{arguments}
use Rattle.launch_calls.specs.Rounds.{behind}
use Rattle.launch_calls.proofs.handed.arguments.Given as goal

abbrev pub invariant-loop-arg : goal.invariant-loop-arg
invariant-loop-arg l = behind l.values (arguments l.slots (drop l.arg-index l.args)) ≡ arguments l.slots l.args
