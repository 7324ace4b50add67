use Rattle.std.proofs.lemmas.Result.{err_from_is_err_and}
use Rattle.region_tree.proofs.refusal.test_partition.Goals as goal

pub returns-in_err-test_within-clause-refused : goal.returns-in_err-test_within-clause-refused
returns-in_err-test_within-clause-refused c =
    let p = err_from_is_err_and c.from_residual.result c.from_residual.ensures.1 in
    rw (p.1, p.2) (c.in_err-test_within.ensures.refused c.args.disjoint)
