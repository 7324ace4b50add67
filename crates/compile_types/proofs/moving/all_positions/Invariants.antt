use Rattle.std.proofs.Common.{◌≡◌, take, map}
use Rattle.compile_types.specs.Positions.{position_in}
use Rattle.compile_types.proofs.moving.all_positions.Given as goal

abbrev pub invariant-loop-region : goal.invariant-loop-region
invariant-loop-region l = l.places ≡ map (position_in l.facts l.targets) (take l.region-index l.regions)
