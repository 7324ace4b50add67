use Rattle.std.proofs.Common.{◌≡◌, ◌<◌, ◌-◌, ◌^◌}
use Rattle.worker_gate.proofs.worker.work.Given as goal

abbrev pub invariant-loop : goal.invariant-loop
invariant-loop g l =
    (goal.iterator-loop g).can_next l.iterator' × (goal.iterator-loop g).is_finite l.iterator'
    × ((g.D.Desk.seated l.seat).overs ≡ (g.D.Desk.seated l.fn.seat).overs)
    × ((g.D.Desk.seated l.fn.seat).claims < 2 ^ 64 - 1 → (g.D.Desk.seated l.seat).claims ≡ (g.D.Desk.seated l.fn.seat).claims)
