use Rattle.std.proofs.Common.{◌≡◌, take, map}
use Rattle.check_rules.specs.rules.Spaces.{type_of_ref}
use Rattle.written_types.proofs.type_rules.types_of_refs.Given as goal

abbrev pub invariant-loop-region : goal.invariant-loop-region
invariant-loop-region l = l.types.items ≡ map (type_of_ref l.names) (take l.region-index l.regions)
