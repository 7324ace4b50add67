use Rattle.std.proofs.Common.{ap, arith, length, subst, sym, ◌+◌, ◌-◌, ◌*◌, ◌∙◌, ◌≡◌}
use Rattle.bit_planes.specs.Planes.{count_below, has_point}
use Rattle.bit_planes.specs.Words.{placed}
use Rattle.bit_planes.proofs.Bits.{AreWords}
use Rattle.bit_planes.proofs.Placed.{count_before_placed, point_within}
use Rattle.bit_planes.proofs.plane.Plane.place_of.Goals as goal

pub overflow_sub-place : goal.overflow_sub-place
overflow_sub-place c =
    let p = c.self.inside in
    let there = ap (λ s. has_point s c.args.point) c.self.view_is ∙ sym c.has.ensures ∙ c.if-not-has.false in
    omega (arith, (point_within p.first p.words.items c.self.invariant.fit c.args.point there).0)

pub count_before-requires-clause-inside : goal.count_before-requires-clause-inside
count_before-requires-clause-inside c =
    let p = c.self.inside in
    let there = ap (λ s. has_point s c.args.point) c.self.view_is ∙ sym c.has.ensures ∙ c.if-not-has.false in
    let within = point_within p.first p.words.items c.self.invariant.fit c.args.point there in
    omega (arith, within.0, within.1, ap length c.as_slice-words.ensures.value)

pub returns-clause-some : goal.returns-clause-some
returns-clause-some c =
    let p = c.self.inside in
    let ws = c.as_slice-words.result.now in
    let same = ap (placed p.first) c.as_slice-words.ensures.value ∙ c.self.view_is in
    let fit = subst AreWords (sym c.as_slice-words.ensures.value) c.self.invariant.fit in
    let there = sym c.has.ensures ∙ c.if-not-has.false in
    let within = point_within p.first ws fit c.args.point (ap (λ s. has_point s c.args.point) same ∙ there) in
    record {
      there = there;
      before = ap (λ s. count_below (has_point s) c.args.point) (sym same) ∙ ap (count_below (has_point (placed p.first ws))) (let e : c.args.point ≡ 64 * p.first + (c.args.point - 64 * p.first) = omega (arith, within.0) in e) ∙ count_before_placed p.first ws fit (c.args.point - 64 * p.first) ∙ sym c.count_before.ensures;
    }
