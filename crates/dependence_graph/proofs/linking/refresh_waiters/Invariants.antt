use Rattle.std.proofs.Common.{◌≡◌, ℕ, length, take}
use Rattle.dependence_graph.specs.Links.{AreReady, HasAll, HasReady, IsLinked, waiters_at}
use Rattle.dependence_graph.proofs.linking.refresh_waiters.Given as goal

abbrev pub invariant-loop-index : goal.invariant-loop-index
invariant-loop-index l = record {
  linked : IsLinked l.knots l.links.items;
  waiters : (k : ℕ) → waiters_at l.links.items k ≡ waiters_at l.fn.links.items k;
  ready : AreReady l.knots l.ready;
  room : length l.ready ≡ length l.fn.ready;
  all : HasAll l.fn.ready l.ready;
  found : HasReady l.knots (take l.index (waiters_at l.fn.links.items l.place)) l.ready;
}
