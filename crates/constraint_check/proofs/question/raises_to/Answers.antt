use Rattle.std.proofs.Common.{rules, tests, ◌≡◌, ◌∙◌, true}
use Rattle.std.specs.List.{list_any}
use Rattle.std.proofs.lemmas.Iterator.{YieldsList-from_slice}
use Rattle.std.proofs.lemmas.Iterator.Search.{any_from_yields_List}
use Rattle.regent_tree.specs.Facts.{raises}
use Rattle.constraint_check.specs.Looking.{is_met_by}
use Rattle.regent_tree.proofs.Members.{and-true}
use Rattle.constraint_check.proofs.question.raises_to.Goals as goal

pub returns-then-raises : goal.returns-then-raises
returns-then-raises c =
    let row = c.args.row.now in
    let found : c.any.result ≡ list_any (is_met_by c.args.sought.now) row.1 =
    any_from_yields_List (is_met_by c.args.sought.now) _ _ _ c.any.ensures.ran
    (YieldsList-from_slice row.1 cc) (λ x b q k. search (rules, tests)) in
    let raised : raises row.0 c.args.term.now ≡ true = cc in
    found ∙ and-true _ _ raised
