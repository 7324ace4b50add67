use Rattle.std.proofs.Common.{◌≡◌, drop}
use Rattle.index_launch.specs.Shapes.{against, first}
use Rattle.index_launch.proofs.shape.reason_against.Given as goal

abbrev pub invariant-loop-b : goal.invariant-loop-b
invariant-loop-b l =
    first (against l.view.apart l.a l.one l.b (drop l.b l.view.args)) ≡ first (against l.view.apart l.a l.one l.a (drop l.a l.view.args))
