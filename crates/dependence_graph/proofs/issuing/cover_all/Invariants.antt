use Rattle.std.proofs.Common.{◌≡◌, ◌+◌, List, drop}
use Rattle.region_finder.specs.Listings.{IsListingOf}
use Rattle.dependence_graph.specs.Entries.{Knot}
use Rattle.dependence_graph.specs.Graphs.{covered_each}
use Rattle.dependence_graph.specs.Issues.{state}
use Rattle.dependence_graph.proofs.issuing.cover_all.Given as goal

abbrev pub invariant-loop-place : goal.invariant-loop-place
invariant-loop-place g l = record {
  rest : (ks : List Knot) → covered_each l.parent.0 (drop l.place l.needs) (state ks (g.F.Finder.listing l.finder)) (l.first + l.place)
      ≡ covered_each l.parent.0 l.needs (state ks (g.F.Finder.listing l.fn.finder)) l.first;
  placed : IsListingOf (g.P.Paths.forest l.tree) (g.F.Finder.listing l.finder);
}
