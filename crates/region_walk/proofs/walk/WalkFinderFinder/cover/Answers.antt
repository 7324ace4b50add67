use Rattle.std.proofs.Common.{◌∙◌, List, ap, subst, sym}
use Rattle.region_finder.specs.Listings.{IsListingOf, Listed, all_uncovered}
use Rattle.region_tree.specs.Needs.{AreNeeds}
use Rattle.region_tree.specs.declared.needs.Need.{Need}
use Rattle.region_walk.specs.Keeping.{live}
use Rattle.region_walk.proofs.walk.WalkFinderFinder.cover.Goals as goal

pub cover_each-requires-clause-listing : goal.cover_each-requires-clause-listing
cover_each-requires-clause-listing g c = subst (IsListingOf (g.P.Paths.forest c.args.tree.now)) (sym c.self.view_is) c.requires.listing

pub cover_each-requires-clause-needs : goal.cover_each-requires-clause-needs
cover_each-requires-clause-needs g c = subst (AreNeeds (g.P.Paths.forest c.args.tree.now)) (sym c.as_slice.ensures) c.requires.needs

pub returns : goal.returns
returns g c =
    let context = c.args.context.0 in
    let op = c.args.op.0 in
    c.cover_each.ensures.live
    ∙ ap (λ (ns : List Need). all_uncovered context op ns (live c.self.inside.entries)) c.as_slice.ensures
    ∙ ap (λ (ls : List Listed). all_uncovered context op c.args.needs.now.items ls) c.self.view_is
