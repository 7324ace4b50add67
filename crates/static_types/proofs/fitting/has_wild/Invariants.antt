use Rattle.std.proofs.Common.{◌≡◌, drop}
use Rattle.regent_tree.specs.Typing.{has_wild}
use Rattle.static_types.proofs.fitting.has_wild.Given as goal

abbrev pub invariant-loop-region : goal.invariant-loop-region
invariant-loop-region l = has_wild (drop l.region-index l.regions) ≡ has_wild l.regions
