use Rattle.std.proofs.Common.{◌≡◌, ◌++◌, take}
use Rattle.std.specs.Prelude.{flat_map}
use Rattle.check_expressions.specs.Granting.{granted_on}
use Rattle.check_expressions.proofs.rights.add_grants.Given as goal

abbrev pub invariant-loop-grant : goal.invariant-loop-grant
invariant-loop-grant l = l.rights.items
    ≡ l.initial.rights.items ++ flat_map (granted_on l.region l.fields) (take l.grant-index l.grants)
