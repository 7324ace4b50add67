use Rattle.std.proofs.Common.{◌≡◌, ◌++◌, drop, length, take}
use Rattle.physical_instances.specs.Instances.{current_beside}
use Rattle.physical_instances.proofs.current.gather.Given as goal

abbrev pub invariant-loop-place : goal.invariant-loop-place
invariant-loop-place l = record {
  count : length l.base ≡ length l.root;
  done : take l.place l.base ++ current_beside l.further (drop l.place l.root) (drop l.place l.valid) (drop l.place l.base)
      ≡ current_beside l.further l.root l.valid l.initial.base;
}
