use Rattle.std.proofs.Common.{subst, sym}
use Rattle.dependence_graph.proofs.Covering.{placed_uncovered}
use Rattle.region_finder.specs.Listings.{IsListingOf}
use Rattle.graph_rows.proofs.listing.Listing.cover.Goals as goal

pub invariant_of-self : goal.invariant_of-self
invariant_of-self g c =
    subst (IsListingOf c.self.inside.forest) (sym c.cover.ensures)
    (placed_uncovered c.self.inside.forest c.args.context.0 c.args.op.0 c.args.needs.now.items
    (g.F.Finder.listing c.self.inside.finder) c.self.invariant)
