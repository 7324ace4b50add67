use Rattle.std.proofs.Common.{◌≡◌, take}
use Rattle.logical_map.specs.Gives.{reductions_on}
use Rattle.physical_instances.proofs.folding.count_on.Given as goal

abbrev pub invariant-loop-part : goal.invariant-loop-part
invariant-loop-part l = l.count ≡ reductions_on (take l.part-index l.parts) l.root.0 l.field
