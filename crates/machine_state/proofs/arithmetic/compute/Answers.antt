use Rattle.std.proofs.Common.{◌∙◌, ap, sym, w64, Some, rules}
use Rattle.std.proofs.lemmas.Int.{to_z-of_z}
use Rattle.lane_kernels.specs.Numbers.{wrapped}
use Rattle.machine_state.proofs.Widths.{computed_wrapped}
use Rattle.machine_state.proofs.arithmetic.compute.Goals as goal

pub returns-in-Some : goal.returns-in-Some
returns-in-Some c =
    let w = c.args.width in
    let z = c.in-Some.z in
    let told = rw (to_z-of_z w64 c.args.a (search rules), to_z-of_z w64 c.args.b (search rules)) at c.compute_wide.ensures in
    ap Some (to_z-of_z w64 c.wrap.result (search rules) ∙ c.wrap.ensures
    ∙ ap (wrapped w) (to_z-of_z w64 z (search rules)))
    ∙ sym (computed_wrapped c.args.operator w c.args.a c.args.b z
    (sym told ∙ c.in-Some.is))
