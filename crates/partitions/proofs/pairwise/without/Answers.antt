use Rattle.partitions.proofs.Pairs.{without_filter, without_parts, without_apart}
use Rattle.partitions.proofs.pairwise.without.Goals as goal

pub returns-in_err-sets-clause-filters : goal.returns-in_err-sets-clause-filters
returns-in_err-sets-clause-filters c = without_filter

pub returns-clause-filters : goal.returns-clause-filters
returns-clause-filters c = without_filter

pub returns-clause-parts : goal.returns-clause-parts
returns-clause-parts c parent p =
    rw c.in_ok-sets.ensures (without_parts parent c.args.p.now c.args.q.now p)

pub returns-clause-apart : goal.returns-clause-apart
returns-clause-apart c apart =
    rw c.in_ok-sets.ensures (without_apart c.args.p.now c.args.q.now apart)
