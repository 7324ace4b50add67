use Rattle.std.proofs.Common.{◌≡◌, filter}
use Rattle.lane_kernels.specs.declared.numbers.Width.{Width}
use Rattle.logical_map.specs.Gives.{given_beside, is_write}
use Rattle.physical_instances.proofs.instances.Instances.put_back.Given as goal

abbrev pub invariant-loop-piece : goal.invariant-loop-piece
invariant-loop-piece l = record {
  points : l.self.points ≡ l.initial.self.points;
  numbers : (w : Width) → l.self.numbers ≡ given_beside w (filter is_write l.yielded) l.initial.self.points l.initial.self.numbers;
}
