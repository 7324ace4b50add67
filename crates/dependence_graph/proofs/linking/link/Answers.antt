use Rattle.std.specs.Prelude.{Contains}
use Rattle.std.proofs.Common.{List, arith, subst, sym}
use Rattle.std.proofs.lemmas.List.{take_all}
use Rattle.region_tree.specs.declared.tree.OpNumber.{OpNumber}
use Rattle.dependence_graph.specs.Knots.{number}
use Rattle.dependence_graph.proofs.Refreshing.{grown_on, told_more}
use Rattle.dependence_graph.proofs.linking.link.Goals as goal

pub loop-op-preserved : goal.loop-op-preserved
loop-op-preserved c = record {
  grown = grown_on c.args.links.now.items c.loop-op.links.items c.add_waiter.new.links.items c.loop-op.invariant.grown c.add_waiter.ensures.grown;
  told = told_more c.loop-op.links.items c.add_waiter.new.links.items c.args.on.now c.loop-op.op-index c.args.waiter _ c.loop-op-test.true
      c.loop-op.invariant.told c.add_waiter.ensures.grown c.in_ok-add_waiter.ensures.linked;
}

pub returns-clause-linked : goal.returns-clause-linked
returns-clause-linked c k b m =
    c.loop-op.invariant.told k b
    (subst (λ (os : List OpNumber). Contains os (number k)) (sym (take_all c.loop-op.op-index c.args.on.now (omega (arith, c.loop-op-test.false)))) m)
