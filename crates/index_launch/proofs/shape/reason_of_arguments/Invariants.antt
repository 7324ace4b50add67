use Rattle.std.proofs.Common.{◌≡◌, drop}
use Rattle.index_launch.specs.Shapes.{first, of_arguments}
use Rattle.index_launch.proofs.shape.reason_of_arguments.Given as goal

abbrev pub invariant-loop-place : goal.invariant-loop-place
invariant-loop-place l = first (of_arguments l.place (drop l.place l.args)) ≡ first (of_arguments 0 l.args)
