use Rattle.std.proofs.Common.{rules, tests, ◌≡◌, ◌∙◌, sym, List, [], ◌∷◌, ◌++◌, false}
use Rattle.std.specs.List.{list_any}
use Rattle.std.proofs.lemmas.Bool.{cond-false}
use Rattle.std.proofs.lemmas.Iterator.{YieldsList-from_slice}
use Rattle.std.proofs.lemmas.Iterator.Search.{any_from_yields_List}
use Rattle.regent_tree.specs.Facts.{alike}
use Rattle.regent_tree.specs.declared.facts.Term.{Term}
use Rattle.constraint_check.proofs.row.add_new.Goals as goal

pub returns-in_ok-push : goal.returns-in_ok-push
returns-in_ok-push c =
    let terms : List Term = c.args.terms.now.items in
    let test = alike c.args.term in
    let found : c.any.result ≡ list_any test terms =
    any_from_yields_List test _ _ _ c.any.ensures.ran
    (YieldsList-from_slice terms cc) (λ x d q k. search (rules, tests)) in
    let absent : list_any test terms ≡ false = cc in
    let pushed : c.push.new.self.items ≡ terms ++ c.args.term ∷ [] = cc (c.in_ok-push.ensures.items) in
    pushed ∙ sym (cond-false (list_any test terms) terms (terms ++ c.args.term ∷ []) absent)
