use Rattle.std.proofs.Common.{length, ap, arith, subst, sym, ◌*◌, ◌∙◌}
use Rattle.bit_planes.specs.Planes.{count_below, has_point, IsBelow}
use Rattle.bit_planes.specs.declared.TheConstants.{WORD_LIMIT}
use Rattle.bit_planes.specs.Words.{placed}
use Rattle.bit_planes.proofs.Bits.{AreWords}
use Rattle.bit_planes.proofs.Placed.{count_placed, none_behind}
use Rattle.bit_planes.proofs.plane.Plane.len.Goals as goal

pub returns-clause-value : goal.returns-clause-value
returns-clause-value c =
    let p = c.self.inside in
    let ws = c.as_slice-words.result.now in
    let same = ap (placed p.first) c.as_slice-words.ensures.value ∙ c.self.view_is in
    let fit = subst AreWords (sym c.as_slice-words.ensures.value) c.self.invariant.fit in
    let within = c.self.invariant.within in
    c.count_ahead.ensures ∙ sym (count_placed p.first ws fit WORD_LIMIT (omega (arith, ap length c.as_slice-words.ensures.value))) ∙ ap (λ s. count_below (has_point s) (64 * WORD_LIMIT)) same

pub returns-clause-below : goal.returns-clause-below
returns-clause-below c =
    let p = c.self.inside in
    let known = c.self.invariant in
    let within = known.within in
    subst (IsBelow (64 * WORD_LIMIT)) c.self.view_is (λ z l. none_behind p.first p.words.items known.fit z (omega arith))
