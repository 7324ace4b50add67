use Rattle.std.proofs.lemmas.Result.{IfOk-weaker}
use Rattle.region_tree.proofs.Dividing.{needed_members}
use Rattle.region_tree.proofs.required_part.points_needed.Goals as goal

pub returns-clause-has : goal.returns-clause-has
returns-clause-has c =
    IfOk-weaker c.union.result _ _
    (λ s e p. needed_members c.args.needs.now c.args.root.0
    c.args.field c.in_ok-own.own c.in_ok-others.others s e c.in_ok-own.ensures.has
    c.in_ok-others.ensures.has p) c.union.ensures.value
