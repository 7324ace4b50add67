use Rattle.std.proofs.Common.{◌≡◌, ◌∙◌, List, ap, false, subst, sym}
use Rattle.region_finder.specs.Listings.{has_op}
use Rattle.region_walk.specs.Keeping.{entries_of, live}
use Rattle.region_walk.specs.declared.entries.Kept.{Kept}
use Rattle.region_walk.proofs.Keeping.{absent_tidied, live_tidied}
use Rattle.region_walk.proofs.scan.tidy_for.Goals as goal

pub returns-then-knows-clause-live : goal.returns-then-knows-clause-live
returns-then-knows-clause-live c = ap live c.tidy.ensures ∙ live_tidied c.args.entries.now

pub returns-then-knows-clause-absent : goal.returns-then-knows-clause-absent
returns-then-knows-clause-absent c =
    subst (λ (ks : List Kept). has_op (entries_of ks) c.args.op.0 ≡ false) (sym c.tidy.ensures)
    (absent_tidied c.args.op.0 c.args.entries.now c.requires)
