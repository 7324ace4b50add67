use Rattle.std.proofs.Common.{◌≡◌, map}
use Rattle.machine_terms.specs.Makes.{region_with}
use Rattle.plain_store.proofs.roots.regions_with.Given as goal

abbrev pub invariant-loop-set : goal.invariant-loop-set
invariant-loop-set l = l.regions.items ≡ map (region_with l.root.0) l.yielded
