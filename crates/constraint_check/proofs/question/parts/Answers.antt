use Rattle.std.proofs.Common.{◌≡◌, ◌∙◌, sym, ap}
use Rattle.regent_tree.specs.Facts.{any_above, has_sibling_above}
use Rattle.constraint_check.specs.Looking.{parts_over}
use Rattle.regent_tree.proofs.Members.{and-true}
use Rattle.constraint_check.proofs.question.parts.Goals as goal

pub returns-then-disjoint : goal.returns-then-disjoint
returns-then-disjoint c =
    let found : c.are_in_siblings.result ≡ any_above c.args.over_a.now (has_sibling_above c.args.over_b.now c.in-PartOf.partition c.args.b.now) c.args.a.now = cc in
    found ∙ and-true c.in-PartOf.disjoint _ c.if-disjoint.true
    ∙ ap (parts_over c.args.over_a.now c.args.over_b.now c.args.a.now c.args.b.now) (sym c.in-PartOf.is)
