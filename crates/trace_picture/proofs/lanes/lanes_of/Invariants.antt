use Rattle.std.proofs.Common.{◌≡◌, ◌≤◌, drop, max}
use Rattle.trace_picture.specs.Pictures.{lanes_of}
use Rattle.trace_picture.proofs.lanes.lanes_of.Given as goal

abbrev pub invariant-loop-entry : goal.invariant-loop-entry
invariant-loop-entry l = record {
  so_far : max l.lanes (lanes_of (drop l.entry-index l.journal)) ≡ lanes_of l.journal;
  bound : l.lanes ≤ 65536;
}
