use Rattle.std.proofs.Common.{sym, ◌∙◌}
use Rattle.region_tree.proofs.coverage.covers.Goals as goal

pub returns-then-is_settled : goal.returns-then-is_settled
returns-then-is_settled c =
    c.if-is_settled.true ∙ sym (c.is_settled.ensures c.if-is_settled.true)
