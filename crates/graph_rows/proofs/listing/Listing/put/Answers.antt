use Rattle.std.proofs.Common.{◌∙◌, List, ap, subst, sym}
use Rattle.dependence_graph.proofs.Extending.{listing_push}
use Rattle.region_finder.specs.Listings.{IsListingOf, Listed, has_op}
use Rattle.region_tree.specs.Needs.{AreNeeds}
use Rattle.region_tree.specs.Trees.{RegionTree}
use Rattle.graph_rows.proofs.Relisting.{absent_without, listing_without}
use Rattle.graph_rows.proofs.listing.Listing.put.Goals as goal

pub add-requires-clause-listing : goal.add-requires-clause-listing
add-requires-clause-listing g c =
    let t = c.self.inside.forest in
    subst (IsListingOf t) (sym c.ended.ensures)
    (listing_without t (g.F.Finder.listing c.self.inside.finder) c.args.op.0 c.self.invariant)

pub add-requires-clause-absent : goal.add-requires-clause-absent
add-requires-clause-absent g c =
    ap (λ (ls : List Listed). has_op ls c.args.op.0) c.ended.ensures
    ∙ absent_without (g.F.Finder.listing c.self.inside.finder) c.args.op.0

pub invariant_of-self : goal.invariant_of-self
invariant_of-self g c =
    let t = c.self.inside.forest in
    subst (IsListingOf t) (sym (c.in_err-add.ensures.unchanged ∙ c.ended.ensures))
    (listing_without t (g.F.Finder.listing c.self.inside.finder) c.args.op.0 c.self.invariant)

pub invariant_of-self-2 : goal.invariant_of-self-2
invariant_of-self-2 g c =
    let t = c.self.inside.forest in
    subst (IsListingOf t) (sym c.in_ok-add.ensures.added)
    (listing_push t c.args.context c.args.op c.args.needs.now.items (g.F.Finder.listing c.ended.new.self)
    (subst (λ (u : RegionTree). AreNeeds u c.args.needs.now.items) c.forest.ensures (c.are_needs.ensures c.if-not-are_needs.false))
    (subst (IsListingOf t) (sym c.ended.ensures)
    (listing_without t (g.F.Finder.listing c.self.inside.finder) c.args.op.0 c.self.invariant)))
