use Rattle.std.proofs.Common.{◌≡◌, ◌∙◌, FitsSigned, neg_ℤ, ap, w64, rules}
use Rattle.std.proofs.lemmas.Int.{to_z-of_z, wrapping_neg_is}
use Rattle.std.specs.Int.{int_wrapping_neg}
use Rattle.lane_kernels.proofs.Wraps.{wrapped-wrapped}
use Rattle.lane_kernels.specs.Numbers.{wrapped}
use Rattle.machine_state.proofs.arithmetic.negate.Goals as goal

pub returns : goal.returns
returns c =
    let w = c.args.width in
    let z = c.args.z in
    let fits : FitsSigned w64 z = search rules in
    let negated : c.wrapping_neg.result ≡ int_wrapping_neg w64 z =
    c.wrapping_neg.ensures ∙ ap (int_wrapping_neg w64) (to_z-of_z w64 z fits) in
    to_z-of_z w64 c.wrap.result (search rules) ∙ c.wrap.ensures
    ∙ ap (wrapped w) (to_z-of_z w64 c.wrapping_neg.result (search rules) ∙ negated ∙ wrapping_neg_is w64 z fits)
    ∙ wrapped-wrapped w (neg_ℤ z)
