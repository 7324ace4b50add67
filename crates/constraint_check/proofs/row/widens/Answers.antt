use Rattle.std.proofs.Common.{rules, tests}
use Rattle.std.proofs.lemmas.Iterator.{YieldsList-from_slice}
use Rattle.std.proofs.lemmas.Iterator.Search.{any_from_yields_List}
use Rattle.regent_tree.specs.Facts.{raises}
use Rattle.constraint_check.proofs.row.widens.Goals as goal

pub returns : goal.returns
returns c =
    any_from_yields_List (raises c.args.known.now) _ _ _ c.any.ensures.ran
    (YieldsList-from_slice c.args.row.now.1 cc) (λ x d q k. search (rules, tests))
