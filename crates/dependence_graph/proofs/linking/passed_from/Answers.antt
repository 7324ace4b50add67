use Rattle.std.proofs.Common.{◌∙◌, sym}
use Rattle.dependence_graph.proofs.Refreshing.{all_done_more}
use Rattle.dependence_graph.proofs.linking.passed_from.Goals as goal

pub loop-passed-preserved : goal.loop-passed-preserved
loop-passed-preserved c =
    all_done_more c.args.knots.now c.args.on.now c.loop-passed.passed _ c.loop-passed-test.true c.loop-passed.invariant
    (sym c.is_done.ensures ∙ c.if-is_done.true)
