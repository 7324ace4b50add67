use Rattle.std.proofs.Common.{◌<◌, All, get_or, sym, subst}
use Rattle.point_sets.proofs.Rising.{take_below}
use Rattle.point_sets.proofs.run_set.RunSet.from_sorted.Goals as goal

pub push_run-requires-clause-above : goal.push_run-requires-clause-above
push_run-requires-clause-above c =
    let i = c.loop-point.point-index in
    subst (All (λ x. x < get_or c.args.points.now i 0)) (sym c.loop-point.invariant) (take_below c.args.points.now i c.requires.rising c.loop-point-test.true)
