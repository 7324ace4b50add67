use Rattle.std.proofs.Common.{arith}
use Rattle.point_sets.proofs.Settling.{settled_full, settled_sparse}
use Rattle.point_sets.proofs.form.Form.of_plane.Goals as goal

pub returns-then-words-stretches-clause-settled : goal.returns-then-words-stretches-clause-settled
returns-then-words-stretches-clause-settled c =
    settled_full c.args.plane c.stretches.result c.words.result c.len-below_the_limit.ensures.below c.words.ensures c.stretches.ensures (omega arith)

pub returns-clause-settled : goal.returns-clause-settled
returns-clause-settled c =
    settled_sparse c.args.plane c.in_ok-runs.runs c.stretches.result c.words.result c.len-below_the_limit.ensures.below c.in_ok-runs.ensures.value c.words.ensures c.stretches.ensures (omega arith)
