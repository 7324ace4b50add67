use Rattle.std.proofs.lemmas.List.{map_more, take_all}
use Rattle.std.proofs.lemmas.List.Elements.{All-more}
use Rattle.plain_values.specs.Points.{IsPoints}
use Rattle.point_sets.specs.declared.TheConstants.{POINT_LIMIT}
use Rattle.partitions.specs.Links.{targets_of}
use Rattle.partitions.proofs.links.Links.targets_of_each.Goals as goal

pub loop-set-preserved : goal.loop-set-preserved
loop-set-preserved c =
    let at = c.set-item.is in
    let before = c.loop-set.invariant.sets in
    let pushed = c.in_ok-push.ensures.items in
    let made = c.in_ok-targets-2.ensures in
    let slice = c.as_slice.ensures.value in
    let points = c.in_ok-points.ensures.value in
    let more = map_more (targets_of c.args.self.now) c.args.sets.now c.loop-set.set-index
    c.set-item.result c.loop-set-test.true in
    record {
      sets = cc;
      points = All-more (IsPoints POINT_LIMIT) c.args.sets.now c.loop-set.set-index
          c.set-item.result c.loop-set-test.true c.loop-set.invariant.points
          (rw (← at) c.in_ok-points.ensures.points);
    }

pub returns-clause-points : goal.returns-clause-points
returns-clause-points c = rw (← take_all c.loop-set.set-index c.args.sets.now c.loop-set-test.false)
    c.loop-set.invariant.points
