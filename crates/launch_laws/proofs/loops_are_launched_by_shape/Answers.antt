use Rattle.launch_laws.proofs.Loops.{loops_are_launched_by_shape}
use Rattle.launch_laws.proofs.loops_are_launched_by_shape.Goals as goal

pub returns : goal.returns
returns c = loops_are_launched_by_shape
