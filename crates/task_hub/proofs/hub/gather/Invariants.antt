use Rattle.std.proofs.Common.{◌≡◌, ◌+◌, length}
use Rattle.task_hub.specs.Seats.{overs_of, steps_of}
use Rattle.task_hub.proofs.hub.gather.Given as goal

abbrev pub invariant-loop-seat : goal.invariant-loop-seat
invariant-loop-seat g l =
    (l.steps.parts ≡ l.fn.steps.parts + length l.yielded) × (l.steps.amount ≡ l.fn.steps.amount + steps_of l.yielded)
    × (l.overs.parts ≡ l.fn.overs.parts + length l.yielded) × (l.overs.amount ≡ l.fn.overs.amount + overs_of l.yielded)
