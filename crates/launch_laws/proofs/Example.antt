-- The example, computed.
use Rattle.std.proofs.Common.{refl}
use Rattle.launch_laws.specs.Example.{ThreeLoopsHold}

pub three_loops_hold : ThreeLoopsHold
three_loops_hold = record { sound = refl; demanded = refl; undemanded = refl; twice = refl; code = refl; lines = refl }
