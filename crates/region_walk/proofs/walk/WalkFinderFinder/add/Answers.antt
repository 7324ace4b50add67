use Rattle.std.proofs.Common.{List, subst, sym}
use Rattle.region_finder.specs.Listings.{listed}
use Rattle.region_walk.specs.Keeping.{AreKept}
use Rattle.region_walk.specs.declared.entries.Kept.{Kept}
use Rattle.region_walk.proofs.Listing.{kept_added, kept_back}
use Rattle.region_walk.proofs.walk.WalkFinderFinder.add.Goals as goal

pub invariant_of-self : goal.invariant_of-self
invariant_of-self g c =
    kept_added (listed (g.P.Paths.forest c.args.tree.now) c.args.context c.args.op c.args.needs.now.items)
    c.tidy_for.new.entries c.add_both.new.entries c.tidy_for.new.users c.add_both.new.users c.tidy_for.ensures.absent
    c.in-Ok.ensures.entries c.in-Ok.ensures.live c.in-Ok.ensures.users c.tidy_for.ensures.kept

pub invariant_of-self-in-Err : goal.invariant_of-self-in-Err
invariant_of-self-in-Err g c =
    subst (λ (ks : List Kept). AreKept ks c.remove.new.self) (sym c.in-Err.ensures.unlisted)
    (subst (AreKept c.tidy_for.new.entries) (sym c.remove.ensures)
    (kept_back c.args.op.0 c.tidy_for.new.entries c.tidy_for.new.users c.add_both.new.users c.tidy_for.ensures.absent
    c.in-Err.ensures.others c.tidy_for.ensures.kept))
