use Rattle.std.proofs.Common.{take}
use Rattle.dependence_graph.specs.Links.{AreGrown, AreTold}
use Rattle.dependence_graph.proofs.linking.link.Given as goal

abbrev pub invariant-loop-op : goal.invariant-loop-op
invariant-loop-op l = record {
  grown : AreGrown l.fn.links.items l.links.items;
  told : AreTold l.links.items (take l.op-index l.on) l.waiter;
}
