use Rattle.std.proofs.Common.{List, filter, subst, sym}
use Rattle.region_walk.specs.Keeping.{AreKept, is_live}
use Rattle.region_walk.specs.Users.{ListedNeed}
use Rattle.region_walk.specs.declared.entries.Kept.{Kept}
use Rattle.region_walk.proofs.Listing.{kept_tidied}
use Rattle.region_walk.proofs.walk.tidy.Goals as goal

pub returns-clause-kept : goal.returns-clause-kept
returns-clause-kept c =
    subst (λ (ks : List Kept). AreKept ks c.keep.new.self) (sym c.tidy.ensures)
    (subst (λ (us : List ListedNeed). AreKept (filter is_live c.args.entries.now) us) (sym c.keep.ensures)
    (kept_tidied c.args.entries.now c.args.users.now c.requires))
