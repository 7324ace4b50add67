use Rattle.std.proofs.Common.{ap, subst, sym, ◌%◌, ◌∙◌}
use Rattle.bit_planes.specs.Planes.{has_point}
use Rattle.bit_planes.specs.Words.{placed}
use Rattle.bit_planes.proofs.Bits.{AreWords}
use Rattle.bit_planes.proofs.Placed.{has_in_word}
use Rattle.bit_planes.proofs.plane.Plane.has.Goals as goal

pub returns : goal.returns
returns c =
    let p = c.self.inside in
    let z = c.args.point in
    let ws = c.as_slice.result.now in
    let same = ap (placed p.first) c.as_slice.ensures.value ∙ c.self.view_is in
    let fit = subst AreWords (sym c.as_slice.ensures.value) c.self.invariant.fit in
    c.has_bit.ensures ∙ ap (λ w. has_point w (z % 64)) c.word_at-word.ensures ∙ has_in_word p.first ws fit z ∙ ap (λ s. has_point s z) same
