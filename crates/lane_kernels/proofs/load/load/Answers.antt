use Rattle.std.proofs.Common.{rules, pos, FitsSigned, w64, sym, ◌∙◌, refl}
use Rattle.std.specs.Simd.Lanes.{Each1}
use Rattle.lane_kernels.proofs.Vectors.{chunk_eight_listed, each_back, eight_listed, lanes_again}
use Rattle.lane_kernels.proofs.load.load.Goals as goal

pub returns-clause-value : goal.returns-clause-value
returns-clause-value c =
    let items = eight_listed c.args.at c.args.numbers.now (pos 0) in
    let fits : Each1 (FitsSigned w64) items = (search rules, (search rules, (search rules, (search rules, (search rules, (search rules, (search rules, (search rules, tt)))))))) in
    each_back items fits ∙ sym (chunk_eight_listed c.args.at c.args.numbers.now (pos 0) c.requires)

pub returns-clause-known : goal.returns-clause-known
returns-clause-known c =
    let items = eight_listed c.args.at c.args.numbers.now (pos 0) in
    let fits : Each1 (FitsSigned w64) items = (search rules, (search rules, (search rules, (search rules, (search rules, (search rules, (search rules, (search rules, tt)))))))) in
    lanes_again items (record { eight = refl; fit = fits })
