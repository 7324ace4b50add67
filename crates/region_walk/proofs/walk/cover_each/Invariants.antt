use Rattle.std.proofs.Common.{◌≡◌, drop}
use Rattle.region_finder.specs.Listings.{IsListingOf, all_uncovered}
use Rattle.region_walk.specs.Keeping.{AreKept, live}
use Rattle.region_walk.proofs.walk.cover_each.Given as goal

abbrev pub invariant-loop-place : goal.invariant-loop-place
invariant-loop-place g l = record {
  kept : AreKept l.entries l.users;
  listing : IsListingOf (g.P.Paths.forest l.tree) (live l.entries);
  left : all_uncovered l.context.0 l.op.0 (drop l.place l.needs) (live l.entries)
      ≡ all_uncovered l.context.0 l.op.0 l.needs (live l.fn.entries);
}
