use Rattle.std.proofs.Common.{◌≡◌, take}
use Rattle.check_variables.proofs.initializers.copy_refs.Given as goal

abbrev pub invariant-loop-region : goal.invariant-loop-region
invariant-loop-region l = l.copies ≡ take l.region-index l.regions
