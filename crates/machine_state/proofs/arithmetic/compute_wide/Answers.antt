use Rattle.std.proofs.Common.{◌≡◌, ◌∙◌, pos, false, Some, ap, sym, subst, w64, rules, of_z, to_z}
use Rattle.std.proofs.lemmas.Int.{to_z-of_z}
use Rattle.std.specs.Ordering.{int_eq}
use Rattle.std.specs.Int.{int_wrapping_div}
use Rattle.std.specs.Prelude.{int_div}
use Rattle.lane_kernels.specs.Numbers.{wrapped}
use Rattle.lane_kernels.specs.declared.numbers.Width.TheVariants.{W64}
use Rattle.regent_tree.specs.Numbers.{computed, unless_zero}
use Rattle.machine_state.proofs.Quotients.{quotient_wraps}
use Rattle.machine_state.proofs.arithmetic.compute_wide.Goals as goal

pub returns-else-b-eq0 : goal.returns-else-b-eq0
returns-else-b-eq0 c =
    let a = c.args.a in
    let b = c.args.b in
    let quotient : c.wrapping_div.result ≡ int_wrapping_div w64 a b = search (rules, c.wrapping_div.ensures) in
    let wide : int_wrapping_div w64 a b ≡ wrapped W64 (int_div a b) = quotient_wraps a b (search rules) in
    let other : int_eq b (pos 0) ≡ false = search rules in
    subst (λ o. Some (to_z w64 (of_z w64 c.wrapping_div.result)) ≡ computed o W64 a b) (sym c.in-Divide.is)
    (ap Some (to_z-of_z w64 c.wrapping_div.result (search rules) ∙ quotient ∙ wide)
    ∙ ap (λ t. unless_zero t (wrapped W64 (int_div a b))) (sym other))
