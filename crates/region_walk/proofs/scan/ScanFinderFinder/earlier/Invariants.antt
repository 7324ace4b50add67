use Rattle.std.proofs.Common.{◌≡◌, ◌≤◌, ◌++◌, drop}
use Rattle.region_finder.specs.Listings.{earlier}
use Rattle.region_walk.specs.Keeping.{live}
use Rattle.region_walk.proofs.scan.ScanFinderFinder.earlier.Given as goal

abbrev pub invariant-loop-kept : goal.invariant-loop-kept
invariant-loop-kept g l = record {
  found : l.found.items ++ earlier (g.P.Paths.forest l.tree) (live (drop l.kept-index l.kept-items)) l.context.0 l.needs.items
      ≡ earlier (g.P.Paths.forest l.tree) (live l.kept-items) l.context.0 l.needs.items;
  steps : l.initial.steps ≤ l.steps;
}
