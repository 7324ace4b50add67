use Rattle.point_sets.proofs.Converting.{made_all, made_before, made_more}
use Rattle.point_sets.proofs.run_set.RunSet.of_plane.Goals as goal

pub push_run-requires-clause-above : goal.push_run-requires-clause-above
push_run-requires-clause-above c =
    made_before c.args.plane.now c.loop-stretch.out c.loop-stretch.point c.in-Some.stretch.start c.loop-stretch.invariant c.in-Some.ensures.some.ahead

pub loop-stretch-preserved : goal.loop-stretch-preserved
loop-stretch-preserved c =
    made_more c.args.plane.now c.loop-stretch.out c.push_run.new.self c.loop-stretch.point c.in-Some.stretch.start c.in-Some.stretch.end c.loop-stretch.invariant c.in-Some.ensures.some c.in_ok-push_run.ensures.ok c.push_run.ensures.points

pub returns-clause-value : goal.returns-clause-value
returns-clause-value c =
    made_all c.args.plane.now c.len-below_the_limit.ensures.below c.loop-stretch.out c.loop-stretch.point c.loop-stretch.invariant c.in_default.ensures.none
