use Rattle.std.proofs.Common.{ap, map, sym, to_z, w64, ◌∙◌}
use Rattle.std.specs.Simd.Lanes.{zip2}
use Rattle.lane_kernels.specs.Numbers.{applied}
use Rattle.lane_kernels.specs.declared.numbers.Width.TheVariants.{W64}
use Rattle.lane_kernels.proofs.Vectors.{lanes_greatest, lanes_least, lanes_product, lanes_sum}
use Rattle.lane_kernels.proofs.update.fold_lanes.Goals as goal
use Rattle.lane_kernels.proofs.update.fold_lanes.Goals.{in-Sum, in-Product, in-Least, in-Greatest}

pub returns : goal.returns
returns c =
    let a = c.args.a in
    let b = c.args.b in
    let l = c.requires.left in
    let m = c.requires.right in
    elim c.match-op.branch [
      | in-Sum w ↦ ap (map (to_z w64)) w.result-is ∙ lanes_sum a b l m ∙ ap (λ o. zip2 (applied o W64) a b) (sym w.in-Sum.is)
      | in-Product w ↦ ap (map (to_z w64)) w.result-is ∙ lanes_product a b l m ∙ ap (λ o. zip2 (applied o W64) a b) (sym w.in-Product.is)
      | in-Least w ↦ ap (map (to_z w64)) w.result-is ∙ lanes_least a b l m ∙ ap (λ o. zip2 (applied o W64) a b) (sym w.in-Least.is)
      | in-Greatest w ↦ ap (map (to_z w64)) w.result-is ∙ lanes_greatest a b l m ∙ ap (λ o. zip2 (applied o W64) a b) (sym w.in-Greatest.is)
    ]
