use Rattle.std.proofs.Common.{drop}
use Rattle.machine_state.proofs.Filling.{IsFilled}
use Rattle.machine_state.proofs.holdings.Holdings.fill.Given as goal

abbrev pub invariant-loop-place : goal.invariant-loop-place
invariant-loop-place l =
    IsFilled l.root.0 l.field l.width l.number l.points l.fn.self l.self (drop l.place l.points)
