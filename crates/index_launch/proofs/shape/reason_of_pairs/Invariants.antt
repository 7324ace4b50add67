use Rattle.std.proofs.Common.{◌≡◌, drop}
use Rattle.index_launch.specs.Shapes.{first, of_pairs}
use Rattle.index_launch.proofs.shape.reason_of_pairs.Given as goal

abbrev pub invariant-loop-place : goal.invariant-loop-place
invariant-loop-place l = first (of_pairs l.view.apart l.place (drop l.place l.args)) ≡ first (of_pairs l.view.apart 0 l.view.args)
