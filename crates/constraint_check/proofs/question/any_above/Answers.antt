use Rattle.std.proofs.Common.{rules, tests, ◌≡◌, ◌∙◌, false}
use Rattle.std.specs.List.{list_any}
use Rattle.std.proofs.lemmas.Iterator.{YieldsList-from_slice}
use Rattle.std.proofs.lemmas.Iterator.Search.{any_from_yields_List}
use Rattle.regent_tree.specs.Facts.{raises_to}
use Rattle.constraint_check.specs.Looking.{is_met_by}
use Rattle.regent_tree.proofs.Members.{or-false}
use Rattle.constraint_check.proofs.question.any_above.Goals as goal

pub returns-else-is_met_by : goal.returns-else-is_met_by
returns-else-is_met_by c =
    let test = raises_to (is_met_by c.args.sought.now) c.args.term.now in
    let found : c.any.result ≡ list_any test c.args.rows.now =
    any_from_yields_List test _ _ _ c.any.ensures.ran
    (YieldsList-from_slice c.args.rows.now cc) (λ x b q k. search (rules, tests)) in
    let itself : is_met_by c.args.sought.now c.args.term.now ≡ false = cc in
    found ∙ or-false _ _ itself
