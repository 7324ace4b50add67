use Rattle.std.proofs.Common.{◌<◌, ◌∙◌, List, ap, arith, length, set, subst, sym, take, ℕ}
use Rattle.std.proofs.lemmas.List.{get_or_read}
use Rattle.region_tree.specs.declared.tree.OpNumber.{OpNumber}
use Rattle.dependence_graph.specs.Entries.{Knot}
use Rattle.dependence_graph.specs.Knots.{all_done, no_knot}
use Rattle.dependence_graph.specs.Links.{IsLinked, no_link}
use Rattle.dependence_graph.specs.declared.link.Link.{Link}
use Rattle.dependence_graph.proofs.Refreshing.{linked_passed}
use Rattle.dependence_graph.proofs.linking.is_clear.Goals as goal

pub returns-clause-linked : goal.returns-clause-linked
returns-clause-linked c =
    let there : c.args.place < length c.args.links.now.items = omega (arith, c.requires.there, c.requires.linked.size) in
    let own = get_or_read c.args.links.now.items c.args.place c.index_mut-link.result.now there c.index_mut-link.ensures.value no_link in
    let knot = get_or_read c.args.knots.now c.args.place c.index-knots-place.result c.requires.there c.index-knots-place.is no_knot in
    subst (λ (ws : List ℕ). IsLinked c.args.knots.now (set c.args.links.now.items c.args.place (record { waiters = ws; passed = c.passed_from-passed.result })))
    (sym (ap (λ (m : Link). m.waiters) own))
    (linked_passed c.args.knots.now c.args.links.now.items c.args.place c.passed_from-passed.result c.requires.linked there
    (ap (λ (os : List OpNumber). all_done c.args.knots.now (take c.passed_from-passed.result os))
    (sym (c.on-on.ensures ∙ ap (λ (x : Knot). x.on) knot)) ∙ c.passed_from-passed.ensures.done))
