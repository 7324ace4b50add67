use Rattle.std.proofs.Common.{ap, ◌∙◌}
use Rattle.bit_planes.specs.Planes.{has_point}
use Rattle.bit_planes.proofs.Bits.{has-zero}
use Rattle.bit_planes.proofs.plane.Plane.from_sorted.Goals as goal

pub loop-point-init : goal.loop-point-init
loop-point-init c = record {
  low = c.in_ok-builder.ensures.low;
  high = c.in_ok-builder.ensures.high;
  set = λ z. ap (λ s. has_point s z) c.in_ok-builder.ensures.none ∙ has-zero z;
}
