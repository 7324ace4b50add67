use Rattle.std.proofs.Common.{ap, sym, ◌∙◌}
use Rattle.std.specs.Simd.Lanes.{zip2}
use Rattle.lane_kernels.proofs.Going.{zip2_right}
use Rattle.lane_kernels.proofs.word_operator.WordOperator.lanes.Goals as goal
use Rattle.lane_kernels.proofs.word_operator.WordOperator.lanes.Goals.{in-And, in-Or, in-Minus}
use Rattle.lane_kernels.specs.Fronts.{word_of}

pub returns : goal.returns
returns c =
    elim c.match-self.branch [
      | in-And w ↦ w.result-is ∙ ap (λ o. zip2 (word_of o) c.args.a c.args.b) (sym w.in-And.is)
      | in-Or w ↦ w.result-is ∙ ap (λ o. zip2 (word_of o) c.args.a c.args.b) (sym w.in-Or.is)
      | in-Minus w ↦ w.result-is ∙ (zip2_right _ _ c.args.a c.args.b ∙ ap (λ o. zip2 (word_of o) c.args.a c.args.b) (sym w.in-Minus.is))
    ]
