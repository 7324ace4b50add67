use Rattle.std.proofs.Common.{◌≡◌, [], subst}
use Rattle.regent_tree.specs.PlainProgram.{tree_of}
use Rattle.check_rules.specs.Breaches.{breaches}
use Rattle.check_rules.proofs.accepted.Accepted.loops.Goals as goal

pub returns-clause-sound : goal.returns-clause-sound
returns-clause-sound c = subst (λ p. breaches (tree_of p) ≡ []) c.self.view_is c.self.invariant.sound
