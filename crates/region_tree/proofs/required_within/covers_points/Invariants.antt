use Rattle.std.proofs.Common.{◌≡◌, drop}
use Rattle.std.specs.List.{list_all}
use Rattle.region_tree.proofs.Covering.{covered_at}
use Rattle.region_tree.proofs.required_within.covers_points.Given as goal

abbrev pub invariant-loop-place : goal.invariant-loop-place
invariant-loop-place l =
    list_all (covered_at l.ours l.theirs l.root.0
    l.field) (drop l.place l.points)
    ≡ list_all (covered_at l.ours l.theirs
    l.root.0 l.field) l.points
