use Rattle.std.proofs.Common.{arith, length, subst, ◌≡◌}
use Rattle.bit_planes.specs.Planes.{IsSpan}
use Rattle.bit_planes.proofs.Trimming.{span_of}
use Rattle.bit_planes.proofs.plane.Plane.words.Goals as goal

pub returns : goal.returns
returns c =
    let p = c.self.inside in
    let len : c.len.result ≡ length p.words.items = omega (arith, p.words.ok.0) in
    rw len (subst (λ s. IsSpan s (length p.words.items)) c.self.view_is (span_of p.first p.words.items p.totals.items c.self.invariant))
