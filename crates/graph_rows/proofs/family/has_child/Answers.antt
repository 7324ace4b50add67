use Rattle.graph_rows.proofs.Staying.{own_child}
use Rattle.graph_rows.proofs.family.has_child.Goals as goal

pub returns-then-has : goal.returns-then-has
returns-then-has g c t =
    own_child c.args.graph.now.knots _ c.args.parent.0 c.args.child.0
    (c.requires c.loop-family.family-index _ c.loop-family-test.true) (c.has.ensures c.if-has.true)
