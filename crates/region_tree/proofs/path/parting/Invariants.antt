use Rattle.std.proofs.Common.{◌≡◌, drop}
use Rattle.region_tree.specs.Paths.{parting}
use Rattle.region_tree.proofs.path.parting.Given as goal

abbrev pub invariant-loop-place : goal.invariant-loop-place
invariant-loop-place l = parting (drop l.place l.a) (drop l.place l.b) ≡ parting l.a l.b
