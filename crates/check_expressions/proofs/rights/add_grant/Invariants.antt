use Rattle.std.proofs.Common.{◌≡◌, ◌++◌, take}
use Rattle.check_expressions.specs.Granting.{granted_on}
use Rattle.check_expressions.proofs.rights.add_grant.Given as goal

abbrev pub invariant-loop-field : goal.invariant-loop-field
invariant-loop-field l = l.rights.items
    ≡ l.initial.rights.items ++ granted_on l.region (take l.field-index l.fields) l.grant
