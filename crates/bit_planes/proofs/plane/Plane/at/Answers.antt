use Rattle.std.proofs.Common.{ap, arith, subst, sym, length, ◌*◌, ◌+◌, ◌∙◌}
use Rattle.bit_planes.specs.Planes.{IsPlace, count_below, has_point}
use Rattle.bit_planes.specs.Words.{placed}
use Rattle.bit_planes.specs.declared.TheConstants.{WORD_LIMIT}
use Rattle.bit_planes.proofs.Bits.{AreWords}
use Rattle.bit_planes.proofs.Placed.{count_placed, place_placed}
use Rattle.bit_planes.proofs.plane.Plane.at.Goals as goal

pub returns-in_err-point-clause-none : goal.returns-in_err-point-clause-none
returns-in_err-point-clause-none c =
    let p = c.self.inside in
    let ws = c.as_slice.result.now in
    let same = ap (placed p.first) c.as_slice.ensures.value ∙ c.self.view_is in
    let fit = subst AreWords (sym c.as_slice.ensures.value) c.self.invariant.fit in
    let within = c.self.invariant.within in
    rw c.from_residual.ensures (omega (arith, c.in_err-point.ensures.none, count_placed p.first ws fit WORD_LIMIT (omega (arith, ap length c.as_slice.ensures.value)), ap (λ s. count_below (has_point s) (64 * WORD_LIMIT)) same))

pub returns-clause-some : goal.returns-clause-some
returns-clause-some c =
    let p = c.self.inside in
    let ws = c.as_slice.result.now in
    let same = ap (placed p.first) c.as_slice.ensures.value ∙ c.self.view_is in
    let fit = subst AreWords (sym c.as_slice.ensures.value) c.self.invariant.fit in
    subst (λ s. IsPlace s (64 * p.first + c.in_ok-point.point) c.args.place) same (place_placed p.first ws fit c.in_ok-point.point c.args.place c.in_ok-point.ensures.some)
