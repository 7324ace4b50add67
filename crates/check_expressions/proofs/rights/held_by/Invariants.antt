use Rattle.std.proofs.Common.{◌≡◌, take}
use Rattle.check_expressions.proofs.rights.held_by.Given as goal

abbrev pub invariant-loop-right : goal.invariant-loop-right
invariant-loop-right l = l.held ≡ take l.right-index l.rights
