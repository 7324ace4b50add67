use Rattle.std.proofs.Common.{◌≡◌, drop, length}
use Rattle.physical_instances.specs.Instances.{AreCounts, marked}
use Rattle.physical_instances.proofs.marks.mark.Given as goal

abbrev pub invariant-loop-place : goal.invariant-loop-place
invariant-loop-place l = record {
  beside : length l.valid ≡ length l.root;
  kept : length l.counts ≡ length l.initial.counts;
  counts : AreCounts l.counts l.valid;
  done : marked l.which (drop l.place l.points) l.root l.valid ≡ marked l.which l.points l.root l.initial.valid;
}
