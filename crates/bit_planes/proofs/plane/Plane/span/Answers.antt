use Rattle.std.proofs.Common.{arith, length, subst, ◌+◌, ◌≡◌}
use Rattle.bit_planes.specs.Words.{IsBetween}
use Rattle.bit_planes.proofs.Placed.{between}
use Rattle.bit_planes.proofs.plane.Plane.span.Goals as goal

pub returns : goal.returns
returns c =
    let p = c.self.inside in
    let known = c.self.invariant in
    let len : c.len.result ≡ length p.words.items = omega (arith, p.words.ok.0) in
    rw len (subst (λ s. IsBetween s p.first (p.first + length p.words.items)) c.self.view_is (between p.first p.words.items known.fit known.within))
