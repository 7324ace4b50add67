use Rattle.std.proofs.Common.{◌≡◌, ◌≤◌, ◌<◌, ℕ, length, true}
use Rattle.least_set.specs.Members.{has}
use Rattle.dependence_graph.specs.Knots.{is_ready}
use Rattle.dependence_graph.specs.Links.{AreReady, HasAll, IsLinked}
use Rattle.dependence_graph.proofs.linking.refresh_from.Given as goal

abbrev pub invariant-loop-place : goal.invariant-loop-place
invariant-loop-place l = record {
  linked : IsLinked l.knots l.links.items;
  ready : AreReady l.knots l.ready;
  room : length l.ready ≡ length l.fn.ready;
  all : HasAll l.fn.ready l.ready;
  found : (k : ℕ) → l.first ≤ k → k < l.place → is_ready l.knots k ≡ true → has l.ready k ≡ true;
}
