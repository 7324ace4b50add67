use Rattle.partitions.proofs.Pairs.{either_filter, either_parts}
use Rattle.partitions.proofs.pairwise.either_of.Goals as goal

pub returns-in_err-sets-clause-filters : goal.returns-in_err-sets-clause-filters
returns-in_err-sets-clause-filters c = either_filter

pub returns-clause-filters : goal.returns-clause-filters
returns-clause-filters c = either_filter

pub returns-clause-parts : goal.returns-clause-parts
returns-clause-parts c parent p q =
    rw c.in_ok-sets.ensures (either_parts parent c.args.p.now c.args.q.now p q)
