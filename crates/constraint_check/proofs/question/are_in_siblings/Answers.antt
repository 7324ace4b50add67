use Rattle.std.proofs.Common.{rules, tests, ◌≡◌, ◌∙◌, false}
use Rattle.std.specs.List.{list_any}
use Rattle.std.proofs.lemmas.Iterator.{YieldsList-from_slice}
use Rattle.std.proofs.lemmas.Iterator.Search.{any_from_yields_List}
use Rattle.regent_tree.specs.Facts.{raises_to, has_sibling_above}
use Rattle.regent_tree.proofs.Members.{or-false}
use Rattle.constraint_check.proofs.question.are_in_siblings.Goals as goal

pub returns-else-has_sibling_above : goal.returns-else-has_sibling_above
returns-else-has_sibling_above c =
    let sibling = has_sibling_above c.args.over_b.now c.args.parent c.args.b.now in
    let test = raises_to sibling c.args.a.now in
    let found : c.any.result ≡ list_any test c.args.over_a.now =
    any_from_yields_List test _ _ _ c.any.ensures.ran
    (YieldsList-from_slice c.args.over_a.now cc) (λ x b q k. search (rules, tests)) in
    let itself : sibling c.args.a.now ≡ false = cc in
    found ∙ or-false _ _ itself
