use Rattle.std.specs.Prelude.{filter}
use Rattle.std.proofs.Common.{◌≡◌, ◌≤◌, All}
use Rattle.dependence_graph.specs.Issues.{is_below}
use Rattle.dependence_graph.proofs.Extending.{IsLeft}
use Rattle.dependence_graph.proofs.issuing.unlist.Given as goal

abbrev pub invariant-loop-place : goal.invariant-loop-place
invariant-loop-place g l = record {
  left : All (IsLeft l.first l.place l.size) (g.F.Finder.listing l.finder);
  same : filter (is_below l.first) (g.F.Finder.listing l.finder) ≡ filter (is_below l.first) (g.F.Finder.listing l.fn.finder);
  behind : l.first ≤ l.place;
}
