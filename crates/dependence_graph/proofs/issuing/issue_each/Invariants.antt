use Rattle.std.proofs.Common.{◌≡◌, drop, length}
use Rattle.dependence_graph.specs.Graphs.{issued_each}
use Rattle.dependence_graph.specs.Issues.{state}
use Rattle.dependence_graph.proofs.Extending.{IsIssuing}
use Rattle.dependence_graph.proofs.issuing.issue_each.Given as goal

abbrev pub invariant-loop-one : goal.invariant-loop-one
invariant-loop-one g l = record {
  rest : issued_each (g.P.Paths.forest l.tree) (state l.knots.items (g.F.Finder.listing l.finder)) l.parent (drop l.one-index l.needs)
      ≡ issued_each (g.P.Paths.forest l.tree) (state l.fn.knots.items (g.F.Finder.listing l.fn.finder)) l.parent l.needs;
  issuing : IsIssuing (g.P.Paths.forest l.tree) l.fn.knots.items l.knots.items l.fn.links.items l.links.items (g.F.Finder.listing l.fn.finder) (g.F.Finder.listing l.finder);
  first : l.first ≡ length l.fn.knots.items;
}
