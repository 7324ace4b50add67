use Rattle.std.proofs.Common.{arith, sym}
use Rattle.region_forest.proofs.tests.way_up.Goals as goal

pub loop-step-smaller : goal.loop-step-smaller
loop-step-smaller g c =
    (c.in-Some.ensures.forest.upward c.loop-step.at.0 c.in-Some.step c.loop-step.invariant (sym c.in-Some.ensures.value)).smaller

pub loop-step-preserved : goal.loop-step-preserved
loop-step-preserved g c =
    let up = c.in-Some.ensures.forest.upward c.loop-step.at.0 c.in-Some.step c.loop-step.invariant (sym c.in-Some.ensures.value) in
    omega (arith, c.loop-step.invariant, up.smaller)
