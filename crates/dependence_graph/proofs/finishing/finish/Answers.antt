use Rattle.std.proofs.Common.{◌∙◌, Bool, List, ap, false, length, subst, sym, ◌≡◌}
use Rattle.std.proofs.lemmas.List.{get_or_read, length-set}
use Rattle.least_set.specs.Members.{has}
use Rattle.region_tree.specs.declared.tree.OpNumber.{OpNumber}
use Rattle.dependence_graph.specs.Entries.{Knot}
use Rattle.dependence_graph.specs.Knots.{is_ready, knot_at, no_knot, with_stage}
use Rattle.dependence_graph.specs.Links.{AreReady, HasAll, HasReady, IsKept, IsLinked, waiters_at}
use Rattle.dependence_graph.specs.declared.stage.Stage.TheVariants.{Done}
use Rattle.dependence_graph.proofs.Following.{progress_there}
use Rattle.dependence_graph.proofs.Stepping.{done_linked, done_ready, kept_done}
use Rattle.dependence_graph.proofs.finishing.finish.Goals as goal

pub refresh_waiters-requires-clause-linked : goal.refresh_waiters-requires-clause-linked
refresh_waiters-requires-clause-linked g c =
    subst (λ (ks : List Knot). IsLinked ks c.args.links.now.items) (sym (c.deref.ensures.value ∙ c.enter.ensures))
    (done_linked c.args.knots.now.items c.args.links.now.items c.args.ready.now (g.F.Finder.listing c.args.finder.now) c.args.op.0 c.requires.kept c.requires.progress)

pub refresh_waiters-requires-clause-ready : goal.refresh_waiters-requires-clause-ready
refresh_waiters-requires-clause-ready g c =
    subst (λ (ks : List Knot). AreReady ks c.remove.new.self) (sym (c.deref.ensures.value ∙ c.enter.ensures))
    (subst (AreReady (with_stage c.args.knots.now.items c.args.op.0 Done)) (sym c.remove.ensures)
    (done_ready c.args.knots.now.items c.args.links.now.items c.args.ready.now (g.F.Finder.listing c.args.finder.now) c.args.op.0 c.requires.kept c.requires.progress))

pub returns-clause-kept : goal.returns-clause-kept
returns-clause-kept g c =
    let ks = c.args.knots.now.items in
    let op = c.args.op.0 in
    let us = with_stage ks op Done in
    let first : c.deref.result.now ≡ us = c.deref.ensures.value ∙ c.enter.ensures in
    let second : c.deref-2.result.now ≡ us = c.deref-2.ensures.value ∙ c.enter.ensures in
    let here = progress_there ks op c.requires.progress in
    let own = get_or_read ks op c.index.result.now here c.index.ensures no_knot in
    let parent : c.parent-parent.result.0 ≡ (knot_at ks op).parent.0 = ap (λ (o : OpNumber). o.0) (c.parent-parent.ensures ∙ ap (λ (x : Knot). x.parent) own) in
    subst (λ (xs : List Knot). IsKept xs c.refresh.new.links.items c.refresh.new.ready (g.F.Finder.listing c.ended.new.self)) (sym c.enter.ensures)
    (subst (IsKept us c.refresh.new.links.items c.refresh.new.ready) (sym c.ended.ensures)
    (kept_done ks c.args.links.now.items c.refresh.new.links.items c.args.ready.now c.refresh_waiters.new.ready c.refresh.new.ready (g.F.Finder.listing c.args.finder.now) op
    c.requires.kept c.requires.progress
    (subst (λ (xs : List Knot). IsLinked xs c.refresh.new.links.items) second c.refresh.ensures.linked)
    (subst (λ (xs : List Knot). AreReady xs c.refresh.new.ready) second c.refresh.ensures.ready)
    (c.refresh.ensures.room ∙ c.refresh_waiters.ensures.room ∙ ap (λ (fs : List Bool). length fs) c.remove.ensures ∙ length-set c.args.ready.now op false)
    (subst (λ (fs : List Bool). HasAll fs c.refresh_waiters.new.ready) c.remove.ensures c.refresh_waiters.ensures.all)
    (subst (λ (xs : List Knot). HasReady xs (waiters_at c.args.links.now.items op) c.refresh_waiters.new.ready) first c.refresh_waiters.ensures.found)
    c.refresh.ensures.all
    (λ r. ap (has c.refresh.new.ready) (sym parent)
    ∙ c.refresh.ensures.found (ap (λ (xs : List Knot). is_ready xs c.parent-parent.result.0) second ∙ ap (is_ready us) parent ∙ r))))
