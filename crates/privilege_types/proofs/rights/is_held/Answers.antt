use Rattle.std.proofs.Common.{rules, tests}
use Rattle.std.proofs.lemmas.Iterator.{YieldsList-from_slice}
use Rattle.std.proofs.lemmas.Iterator.Search.{any_from_yields_List}
use Rattle.regent_tree.specs.Rights.{gives}
use Rattle.privilege_types.proofs.rights.is_held.Goals as goal

pub returns : goal.returns
returns c =
    let a = c.args in
    let test = gives a.facts.now a.term.now a.field a.access in
    any_from_yields_List test _ _ _ c.any.ensures.ran
    (YieldsList-from_slice a.rights.now cc) (λ x d q k. search (rules, tests))
