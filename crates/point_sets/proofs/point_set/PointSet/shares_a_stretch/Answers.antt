use Rattle.std.proofs.Common.{refl}
use Rattle.plain_values.specs.Points.{has}
use Rattle.point_sets.proofs.PlaneAnswers.{meets_in, meets_not, none_behind, none_left}
use Rattle.point_sets.proofs.point_set.PointSet.shares_a_stretch.Goals as goal

pub returns-in_default-stretch_from : goal.returns-in_default-stretch_from
returns-in_default-stretch_from c =
    meets_not c.args.self.now c.args.o.now (none_behind c.args.self.now c.args.o.now c.loop-ours.point c.in-Some.ours.start c.in-Some.ours.end c.loop-ours.invariant c.in-Some.ensures.stretch (c.in_default-stretch_from.ensures.none refl))

pub returns-then-theirs-ours : goal.returns-then-theirs-ours
returns-then-theirs-ours c =
    meets_in c.args.self.now c.args.o.now c.loop-ours.point c.in-Some.ours.start c.in-Some.ours.end c.in-Some-stretch_from.theirs.start c.in-Some-stretch_from.theirs.end c.in-Some.ensures.stretch c.in-Some-stretch_from.ensures.stretch c.if-theirs-ours.true

pub returns : goal.returns
returns c =
    meets_not c.args.self.now c.args.o.now (none_left c.args.self.now c.args.o.now (has c.args.o.now) c.loop-ours.point c.loop-ours.invariant (c.in_default.ensures.none refl))
