-- The examples, computed.
use Rattle.std.proofs.Common.{refl}
use Rattle.launch_rules.specs.Example.{LoopsAreTold, ShapesAreTold}

pub loops_are_told : LoopsAreTold
loops_are_told = (refl, refl)

pub shapes_are_told : ShapesAreTold
shapes_are_told = (refl, refl, refl, refl, refl)
