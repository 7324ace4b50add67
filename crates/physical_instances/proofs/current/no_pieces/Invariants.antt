use Rattle.std.proofs.Common.{◌≡◌, None, replicate}
use Rattle.physical_instances.proofs.current.no_pieces.Given as goal

abbrev pub invariant-loop : goal.invariant-loop
invariant-loop l = l.further.items ≡ replicate l.counter None
