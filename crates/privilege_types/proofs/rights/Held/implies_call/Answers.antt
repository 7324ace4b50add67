use Rattle.std.proofs.Common.{◌<◌, length, get_or, subst, refl, arith}
use Rattle.std.proofs.lemmas.List.{take_all}
use Rattle.std.proofs.lemmas.List.Elements.{All-more}
use Rattle.privilege_types.specs.Privileges.{IsGranted}
use Rattle.privilege_types.proofs.rights.Held.implies_call.Goals as goal

pub loop-at-preserved : goal.loop-at-preserved
loop-at-preserved c =
    All-more (IsGranted c.args.self.now c.args.facts.now) c.args.wanted.now c.loop-at.at _ (omega arith)
    c.loop-at.invariant (c.allows.ensures.derivable.0 c.if-not-allows.false)

pub returns-clause-ok : goal.returns-clause-ok
returns-clause-ok c =
    let granted = subst
    (λ ws. (k : _) (d : _) → k < length ws → IsGranted c.args.self.now c.args.facts.now (get_or ws k d))
    (take_all _ _ c.loop-at-test.false) c.loop-at.invariant in
    (λ _. granted, λ _. refl)
