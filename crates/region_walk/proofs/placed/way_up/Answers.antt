use Rattle.std.proofs.Common.{◌∙◌, ◌++◌, ◌∷◌, [], List, ap, append_assoc, arith, sym}
use Rattle.region_finder.specs.Forests.{Upward, way_up}
use Rattle.region_walk.proofs.Climbing.{way_step}
use Rattle.region_walk.proofs.placed.way_up.Goals as goal

pub loop-step-smaller : goal.loop-step-smaller
loop-step-smaller g c =
    (c.in-Some.ensures.forest.upward c.loop-step.at.0 c.in-Some.step c.loop-step.invariant.there (sym c.in-Some.ensures.value)).smaller

pub loop-step-preserved : goal.loop-step-preserved
loop-step-preserved g c =
    let t = g.P.Paths.forest c.args.tree.now in
    let at = c.loop-step.at.0 in
    let step = c.in-Some.step in
    let way = c.loop-step.way.items in
    let up = c.in-Some.ensures.forest.upward at step c.loop-step.invariant.there (sym c.in-Some.ensures.value) in
    record {
      there = omega (arith, c.loop-step.invariant.there, up.smaller);
      way = ap (λ (ws : List Upward). ws ++ way_up t step.0.0) c.in_ok-push.ensures.ok
          ∙ append_assoc way (step ∷ []) (way_up t step.0.0)
          ∙ ap (λ (ws : List Upward). way ++ ws) (sym (way_step t at step c.in-Some.ensures.forest c.loop-step.invariant.there (sym c.in-Some.ensures.value)))
          ∙ c.loop-step.invariant.way;
    }
