-- proofs/sink/put_all/Invariants.antt
use Rattle.std.proofs.Common.{length, ◌-◌, ◌≡◌, ◌≤◌, ◌+◌, take}
use Rattle.run_io.specs.Sink.{Adds}
use Rattle.run_io.proofs.sink.put_all.Given as goal

-- what comes before `at` was added, with no fault
abbrev pub invariant-loop-at : goal.invariant-loop-at
invariant-loop-at g l =
    let held = g.K.Sink.held in
    let faults = g.K.Sink.faults in
    let sure = g.K.Sink.sure in
    record {
      within : l.at ≤ length l.bytes;
      added : Adds (held l.fn.sink) (take l.at l.bytes) (held l.sink);
      steady : faults l.sink ≡ faults l.fn.sink;
      still_sure : sure l.fn.sink ≤ sure l.sink + l.at;
    }

abbrev pub decreases-loop-at : goal.decreases-loop-at
decreases-loop-at g l = length l.bytes - l.at
