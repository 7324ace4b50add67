use Rattle.std.proofs.Common.{◌∙◌}
use Rattle.lane_kernels.proofs.Vectors.{lanes_back}
use Rattle.lane_kernels.proofs.pair_test.DiffersPairTestI64.eight.Goals as goal
use Rattle.lane_kernels.specs.Fronts.{differ, some_pair}

pub returns : goal.returns
returns c =
    let left = c.load in
    let right = c.load-2 in
    c.any_differ.ensures ∙ (λ i. some_pair differ (lanes_back left.result left.ensures.known i) (lanes_back right.result right.ensures.known i))
    ∙ λ i. some_pair differ (left.ensures.value i) (right.ensures.value i)
