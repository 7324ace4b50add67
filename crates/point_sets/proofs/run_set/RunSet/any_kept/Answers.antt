use Rattle.point_sets.proofs.Combining.{none_at_all}
use Rattle.point_sets.proofs.run_set.RunSet.any_kept.Goals as goal

pub returns-clause-none : goal.returns-clause-none
returns-clause-none c =
    let stop = c.in_default.ensures.none in
    let none = none_at_all c.args.operation c.args.self.now c.args.o.now c.loop-piece.sweep c.loop-piece.invariant in
    let h = none stop c.as_runs.ensures.set c.as_runs-2.ensures.set in
    λ _. h
