use Rattle.std.proofs.Common.{subst, sym}
use Rattle.region_finder.specs.Listings.{IsListingOf}
use Rattle.graph_rows.proofs.Relisting.{listing_without}
use Rattle.graph_rows.proofs.listing.Listing.ended.Goals as goal

pub invariant_of-self : goal.invariant_of-self
invariant_of-self g c =
    subst (IsListingOf c.self.inside.forest) (sym c.ended.ensures)
    (listing_without c.self.inside.forest (g.F.Finder.listing c.self.inside.finder) c.args.op.0 c.self.invariant)
