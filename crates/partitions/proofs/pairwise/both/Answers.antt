use Rattle.partitions.proofs.Pairs.{both_filter, both_parts, both_apart}
use Rattle.partitions.proofs.pairwise.both.Goals as goal

pub returns-in_err-sets-clause-filters : goal.returns-in_err-sets-clause-filters
returns-in_err-sets-clause-filters c = both_filter

pub returns-clause-filters : goal.returns-clause-filters
returns-clause-filters c = both_filter

pub returns-clause-parts : goal.returns-clause-parts
returns-clause-parts c parent p =
    rw c.in_ok-sets.ensures (both_parts parent c.args.p.now c.args.q.now p)

pub returns-clause-apart : goal.returns-clause-apart
returns-clause-apart c apart = rw c.in_ok-sets.ensures (both_apart c.args.p.now c.args.q.now apart)
