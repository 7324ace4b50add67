use Rattle.std.proofs.Common.{◌||◌, drop, ap, sym, ◌∙◌, arith}
use Rattle.std.proofs.lemmas.List.{drop-drop}
use Rattle.lane_kernels.specs.Fronts.{some_pair}
use Rattle.lane_kernels.proofs.Going.{some_pair_split}
use Rattle.lane_kernels.proofs.pair_test.any_pair.Goals as goal

pub loop-at-preserved : goal.loop-at-preserved
loop-at-preserved g c =
    let f = g.Q.PairTest.passed in
    let at = c.loop-at.at in
    let a = c.args.a.now in
    let b = c.args.b.now in
    record {
      inside = omega arith;
      rest = c.loop-at.invariant.rest ∙ some_pair_split f 8 (drop at a) (drop at b)
          ∙ ap (λ t. t || some_pair f (drop 8 (drop at a)) (drop 8 (drop at b))) (sym c.eight.ensures ∙ c.if-eight.false)
          ∙ λ i. some_pair f (drop-drop 8 at a i) (drop-drop 8 at b i);
    }
