use Rattle.std.proofs.Common.{◌≡◌, ◌++◌, ◌∷◌, [], ◌∙◌, List, ap, arith, length, subst, sym, ℕ}
use Rattle.region_finder.specs.Listings.{Listed, has_op}
use Rattle.region_tree.specs.declared.tree.OpNumber.{OpNumber}
use Rattle.dependence_graph.specs.Awaited.{awaited_ops}
use Rattle.dependence_graph.specs.Entries.{Knot}
use Rattle.dependence_graph.specs.Graphs.{knot_on}
use Rattle.dependence_graph.specs.Links.{AreTold, IsLinked, no_link}
use Rattle.dependence_graph.specs.declared.link.Link.{Link}
use Rattle.dependence_graph.specs.declared.stage.Stage.TheVariants.{Dropped, Waiting}
use Rattle.dependence_graph.proofs.Extending.{not_listed}
use Rattle.dependence_graph.proofs.IssuingSteps.{linked_one}
use Rattle.dependence_graph.proofs.Linked.{linked_grown}
use Rattle.dependence_graph.proofs.issuing.issue_one.Goals as goal

pub returns-in_err-make_room-clause-linked : goal.returns-in_err-make_room-clause-linked
returns-in_err-make_room-clause-linked g c =
    subst (λ (ks : List Knot). IsLinked ks c.make_room.new.links.items) (sym c.make_room.ensures.knots)
    (subst (IsLinked c.args.knots.now.items) (sym c.make_room.ensures.links)
    (linked_grown c.args.knots.now.items c.args.links.now.items c.link.new.links.items c.requires.linked c.link.ensures.grown))

pub add-requires-clause-absent : goal.add-requires-clause-absent
add-requires-clause-absent g c =
    ap (λ (ls : List Listed). has_op ls c.len.result) c.awaited.ensures.listing
    ∙ ap (has_op (g.F.Finder.listing c.args.finder.now)) (let e : c.len.result ≡ length c.args.knots.now.items = omega (arith, c.len.ensures, c.args.knots.now.ok.0) in e)
    ∙ not_listed c.args.knots.now.items (g.F.Finder.listing c.args.finder.now) c.requires.listed

pub returns-in_err-add-clause-linked : goal.returns-in_err-add-clause-linked
returns-in_err-add-clause-linked g c =
    subst (λ (ks : List Knot). IsLinked ks c.make_room.new.links.items) (sym c.make_room.ensures.knots)
    (subst (IsLinked c.args.knots.now.items) (sym c.make_room.ensures.links)
    (linked_grown c.args.knots.now.items c.args.links.now.items c.link.new.links.items c.requires.linked c.link.ensures.grown))

pub returns-clause-linked : goal.returns-clause-linked
returns-clause-linked g c =
    let ks = c.args.knots.now.items in
    let us = c.link.new.links.items in
    let on = awaited_ops c.in_ok-on.on in
    let told : AreTold us on (length ks) =
    subst (λ (os : List OpNumber). AreTold us os (length ks)) c.as_slice.ensures
    (subst (λ (n : ℕ). AreTold us c.as_slice.result.now n)
    (let e : c.len-2.result ≡ length ks = omega (arith, c.len-2.ensures, c.args.knots.now.ok.0) in e) c.in_ok-link.ensures.linked) in
    subst (λ (xs : List Knot). IsLinked xs c.push_knot.new.links.items)
    (sym (c.push_knot.ensures.knots ∙ ap (λ (xs : List Knot). xs ++ knot_on xs c.args.parent on Waiting Dropped ∷ []) c.make_room.ensures.knots))
    (subst (IsLinked (ks ++ knot_on ks c.args.parent on Waiting Dropped ∷ []))
    (sym (c.push_knot.ensures.links ∙ ap (λ (ms : List Link). ms ++ no_link ∷ []) c.make_room.ensures.links))
    (linked_one (g.P.Paths.forest c.args.tree.now) ks c.args.links.now.items us (g.F.Finder.listing c.args.finder.now) c.args.parent c.args.needs.now.items on
    c.requires.linked c.link.ensures.grown c.requires.listed c.in_ok-on.ensures.found told))
