use Rattle.std.proofs.Common.{All, take}
use Rattle.privilege_types.specs.Privileges.{IsGranted}
use Rattle.privilege_types.proofs.rights.Held.implies_call.Given as goal

abbrev pub invariant-loop-at : goal.invariant-loop-at
invariant-loop-at l = All (IsGranted l.self l.facts) (take l.at l.wanted)
