use Rattle.std.proofs.Common.{ap, arith, length, subst, sym, ◌*◌, ◌∙◌}
use Rattle.bit_planes.specs.Planes.{count_below, is_last}
use Rattle.bit_planes.specs.Words.{placed}
use Rattle.bit_planes.specs.declared.TheConstants.{WORD_LIMIT}
use Rattle.bit_planes.proofs.Bits.{AreWords}
use Rattle.bit_planes.proofs.Placed.{count_lasts}
use Rattle.bit_planes.proofs.plane.Plane.stretches.Goals as goal

pub returns : goal.returns
returns c =
    let p = c.self.inside in
    let ws = c.as_slice.result.now in
    let same = ap (placed p.first) c.as_slice.ensures.value ∙ c.self.view_is in
    let fit = subst AreWords (sym c.as_slice.ensures.value) c.self.invariant.fit in
    let within = c.self.invariant.within in
    c.count_stretches.ensures ∙ sym (count_lasts p.first ws fit WORD_LIMIT (omega (arith, ap length c.as_slice.ensures.value))) ∙ ap (λ s. count_below (is_last s) (64 * WORD_LIMIT)) same
