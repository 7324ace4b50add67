use Rattle.std.proofs.Common.{◌≡◌, ◌++◌, drop, length, take}
use Rattle.physical_instances.specs.Instances.{trimmed}
use Rattle.physical_instances.proofs.current.trim.Given as goal

abbrev pub invariant-loop-place : goal.invariant-loop-place
invariant-loop-place l = record {
  count : length l.counts ≡ length l.further;
  done : take l.place l.further ++ trimmed (drop l.place l.counts) (drop l.place l.further) ≡ trimmed l.counts l.initial.further;
}
