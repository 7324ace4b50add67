use Rattle.std.proofs.Common.{arith}
use Rattle.std.proofs.lemmas.Int.{to_z-of_z}
use Rattle.lane_kernels.proofs.Wraps.{wrapped-low_half}
use Rattle.lane_kernels.proofs.numbers.Width.wrap.Goals as goal

pub returns-in-W32 : goal.returns-in-W32
returns-in-W32 c = grind (arith, to_z-of_z, wrapped-low_half)
