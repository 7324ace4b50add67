use Rattle.std.proofs.Common.{ap, arith, subst, sym, ◌*◌, ◌+◌, ◌-◌, ◌∙◌, ◌≡◌}
use Rattle.bit_planes.specs.Planes.{IsStretch, has_point}
use Rattle.bit_planes.specs.Words.{number_of, placed}
use Rattle.bit_planes.proofs.Bits.{AreWords}
use Rattle.bit_planes.proofs.Placed.{none_from, stretch_placed}
use Rattle.bit_planes.proofs.plane.Plane.stretch_from.Goals as goal

pub returns-in_err-stretch-clause-none : goal.returns-in_err-stretch-clause-none
returns-in_err-stretch-clause-none c =
    let p = c.self.inside in
    let ws = c.as_slice.result.now in
    let same = ap (placed p.first) c.as_slice.ensures.value ∙ c.self.view_is in
    let fit = subst AreWords (sym c.as_slice.ensures.value) c.self.invariant.fit in
    rw c.from_residual.ensures (λ z l. ap (λ s. has_point s z) (sym same) ∙ none_from p.first ws fit c.args.point (λ y g. c.in_err-stretch.ensures.none y (omega arith)) z l)

pub returns-clause-some : goal.returns-clause-some
returns-clause-some c =
    let p = c.self.inside in
    let ws = c.as_slice.result.now in
    let same = ap (placed p.first) c.as_slice.ensures.value ∙ c.self.view_is in
    let fit = subst AreWords (sym c.as_slice.ensures.value) c.self.invariant.fit in
    let r = c.in_ok-stretch.stretch in
    let from : c.saturating_sub.result ≡ c.args.point - 64 * p.first = omega arith in
    subst (λ s. IsStretch s c.args.point (64 * p.first + r.start) (64 * p.first + r.end)) same (stretch_placed p.first ws fit c.args.point r.start r.end (subst (λ n. IsStretch (number_of ws) n r.start r.end) from c.in_ok-stretch.ensures.some))
