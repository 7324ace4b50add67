use Rattle.std.specs.Prelude.{Contains}
use Rattle.std.proofs.Common.{◌∙◌, List, ap, arith, get_or, length, subst, sym, ℕ}
use Rattle.std.proofs.lemmas.List.{get_or_read, take_all}
use Rattle.dependence_graph.specs.Links.{no_link, waiters_at}
use Rattle.dependence_graph.specs.declared.link.Link.{Link}
use Rattle.dependence_graph.proofs.Refreshing.{found_more}
use Rattle.dependence_graph.proofs.linking.refresh_waiters.Goals as goal

pub loop-index-preserved : goal.loop-index-preserved
loop-index-preserved c =
    let ns = waiters_at c.args.links.now.items c.args.place in
    let own = get_or_read c.args.links.now.items c.args.place c.index.result.now (omega (arith, c.requires.there, c.requires.linked.size)) c.index.ensures no_link in
    record {
      linked = c.refresh.ensures.linked;
      waiters = λ k. c.refresh.ensures.waiters k ∙ c.loop-index.invariant.waiters k;
      ready = c.refresh.ensures.ready;
      room = c.refresh.ensures.room ∙ c.loop-index.invariant.room;
      all = λ k h. c.refresh.ensures.all k (c.loop-index.invariant.all k h);
      found = found_more c.args.knots.now ns c.loop-index.index c.waiter-waiter.result c.loop-index.ready c.refresh.new.ready
          (omega (arith, c.loop-index-test.true, c.len-index-end.ensures, ap {B = ℕ} (λ (m : Link). length m.waiters) own))
          (c.waiter-waiter.ensures ∙ ap (λ (ls : List Link). get_or (waiters_at ls c.args.place) c.loop-index.index 0) c.deref.ensures.value
          ∙ ap (λ (ws : List ℕ). get_or ws c.loop-index.index 0) (c.loop-index.invariant.waiters c.args.place))
          c.loop-index.invariant.found c.refresh.ensures.all c.refresh.ensures.found;
    }

pub returns-clause-found : goal.returns-clause-found
returns-clause-found c k m r =
    let ns = waiters_at c.args.links.now.items c.args.place in
    let own = get_or_read c.args.links.now.items c.args.place c.index.result.now (omega (arith, c.requires.there, c.requires.linked.size)) c.index.ensures no_link in
    c.loop-index.invariant.found k
    (subst (λ (ws : List ℕ). Contains ws k) (sym (take_all c.loop-index.index ns
    (omega (arith, c.loop-index-test.false, c.len-index-end.ensures, ap {B = ℕ} (λ (m : Link). length m.waiters) own)))) m) r
