use Rattle.std.proofs.Common.{not, refl, arith}
use Rattle.plain_values.specs.Points.{has}
use Rattle.point_sets.proofs.PlaneAnswers.{none_left, within_all, within_not}
use Rattle.point_sets.proofs.point_set.PointSet.has_its_stretches_in.Goals as goal

pub returns-in_default-stretch_from : goal.returns-in_default-stretch_from
returns-in_default-stretch_from c =
    let ours = c.in-Some.ensures.stretch in
    let start = c.in-Some.ours.start in
    within_not c.args.self.now c.args.o.now start (ours.full start (omega arith) ours.some) (c.in_default-stretch_from.ensures.none refl start (omega arith))

pub returns-then-ours-theirs : goal.returns-then-ours-theirs
returns-then-ours-theirs c =
    let ours = c.in-Some.ensures.stretch in
    let theirs = c.in-Some-stretch_from.ensures.stretch in
    let start = c.in-Some.ours.start in
    within_not c.args.self.now c.args.o.now start (ours.full start (omega arith) ours.some) (theirs.gap start (omega arith) (omega arith))

pub returns-then-theirs-ours : goal.returns-then-theirs-ours
returns-then-theirs-ours c =
    let ours = c.in-Some.ensures.stretch in
    let theirs = c.in-Some-stretch_from.ensures.stretch in
    let end = c.in-Some-stretch_from.theirs.end in
    within_not c.args.self.now c.args.o.now end (ours.full end (let a = theirs.ahead in let s = theirs.some in omega arith) (omega arith)) theirs.ends

pub returns : goal.returns
returns c =
    within_all c.args.self.now c.args.o.now (none_left c.args.self.now c.args.o.now (λ z. not (has c.args.o.now z)) c.loop-ours.point c.loop-ours.invariant (c.in_default.ensures.none refl))
