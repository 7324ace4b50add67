use Rattle.std.proofs.Common.{◌∙◌, List, ap, subst, sym}
use Rattle.region_finder.specs.Listings.{Listed, without}
use Rattle.region_walk.specs.Keeping.{AreKept, live}
use Rattle.region_walk.specs.declared.entries.Kept.{Kept}
use Rattle.region_walk.proofs.Keeping.{live_ended}
use Rattle.region_walk.proofs.Listing.{kept_ended}
use Rattle.region_walk.proofs.walk.WalkFinderFinder.ended.Goals as goal

pub invariant_of-self : goal.invariant_of-self
invariant_of-self c =
    subst (λ (ks : List Kept). AreKept ks c.self.inside.users) (sym c.end.ensures)
    (kept_ended c.args.op.0 c.self.inside.entries c.self.inside.users c.self.invariant)

pub invariant_of-self-else-are_stale : goal.invariant_of-self-else-are_stale
invariant_of-self-else-are_stale c =
    subst (λ (ks : List Kept). AreKept ks c.self.inside.users) (sym c.end.ensures)
    (kept_ended c.args.op.0 c.self.inside.entries c.self.inside.users c.self.invariant)

pub returns-then-are_stale : goal.returns-then-are_stale
returns-then-are_stale c =
    c.tidy.ensures ∙ ap live c.end.ensures ∙ live_ended c.args.op.0 c.self.inside.entries
    ∙ ap (λ (ls : List Listed). without ls c.args.op.0) c.self.view_is

pub returns-else-are_stale : goal.returns-else-are_stale
returns-else-are_stale c =
    ap live c.end.ensures ∙ live_ended c.args.op.0 c.self.inside.entries
    ∙ ap (λ (ls : List Listed). without ls c.args.op.0) c.self.view_is
