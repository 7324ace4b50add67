use Rattle.std.proofs.Common.{◌≡◌, drop}
use Rattle.std.specs.List.{list_all}
use Rattle.machine_terms.specs.Launches.{is_held}
use Rattle.launch_calls.proofs.handed.are_held.Given as goal

abbrev pub invariant-loop-arg : goal.invariant-loop-arg
invariant-loop-arg l = list_all (is_held l.slots) (drop l.arg-index l.args) ≡ list_all (is_held l.slots) l.args
