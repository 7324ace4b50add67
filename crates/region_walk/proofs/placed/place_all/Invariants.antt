use Rattle.std.proofs.Common.{◌≡◌, ◌++◌, drop, map}
use Rattle.region_finder.specs.Listings.{placed}
use Rattle.region_walk.proofs.placed.place_all.Given as goal

abbrev pub invariant-loop-need : goal.invariant-loop-need
invariant-loop-need g l =
    l.all.items ++ map (placed (g.P.Paths.forest l.tree)) (drop l.need-index l.needs)
    ≡ map (placed (g.P.Paths.forest l.tree)) l.needs
