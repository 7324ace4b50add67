use Rattle.std.proofs.Common.{List, subst, sym}
use Rattle.region_walk.specs.Keeping.{entries_of}
use Rattle.region_walk.specs.Placing.{IsRising}
use Rattle.region_walk.specs.declared.entries.Kept.{Kept}
use Rattle.region_walk.proofs.Covering.{entries_uncovered, rising_uncovered}
use Rattle.region_walk.proofs.entries.Entries.uncover.Goals as goal

pub invariant_of-self : goal.invariant_of-self
invariant_of-self c =
    let context = c.args.context.0 in
    let op = c.args.op.0 in
    let needs = c.args.needs.now in
    let ks = c.self.inside.kept.items in
    subst (λ (js : List Kept). IsRising (entries_of js))
    (sym c.uncover_all.ensures)
    (subst IsRising (sym (entries_uncovered context op needs ks)) (rising_uncovered context op needs (entries_of ks) c.self.invariant))
