use Rattle.std.proofs.Common.{◌≡◌, ◌∙◌, ◌==◌, sym, ap}
use Rattle.std.proofs.lemmas.Bool.{eq-eqb}
use Rattle.regent_tree.specs.Facts.{any_above, is_other_child, has_sibling_above}
use Rattle.regent_tree.proofs.Members.{and-true}
use Rattle.constraint_check.proofs.question.has_sibling_above.Goals as goal

pub returns-then-parent-partition : goal.returns-then-parent-partition
returns-then-parent-partition c =
    let found : c.any_above.result ≡ any_above c.args.over_b.now (is_other_child c.args.parent c.in-Child.colour) c.args.b.now = cc in
    found ∙ and-true (c.args.parent == c.in-Child.partition) _ (eq-eqb _ _ c.if-parent-partition.true)
    ∙ ap (has_sibling_above c.args.over_b.now c.args.parent c.args.b.now) (sym c.in-Child.is)
