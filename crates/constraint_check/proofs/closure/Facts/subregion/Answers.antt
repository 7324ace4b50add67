use Rattle.std.proofs.Common.{◌≡◌, ◌∙◌, ap, subst, sym, true, List, ◌↔◌}
use Rattle.regent_tree.specs.Facts.{Row, closed, is_certain, is_below, is_subregion}
use Rattle.constraint_check.specs.Derivations.{IsSubregion}
use Rattle.regent_tree.proofs.Members.{and-true}
use Rattle.constraint_check.proofs.Table.{is_subregion-derivable}
use Rattle.constraint_check.proofs.closure.Facts.subregion.Goals as goal

pub returns-then-is_certain-clause-derivable : goal.returns-then-is_certain-clause-derivable
returns-then-is_certain-clause-derivable c =
    let a = c.args.a.now in
    let b = c.args.b.now in
    let certain : is_certain b ≡ true = cc in
    let rows_are = c.deref.ensures.value ∙ c.self.invariant ∙ ap closed c.self.view_is in
    let computed : c.is_below.result ≡ is_subregion c.args.self.now a b =
    c.is_below.ensures ∙ ap (λ (rows : List Row). is_below rows a b) rows_are ∙ and-true (is_certain b) _ certain in
    subst (λ r. (r ≡ true) ↔ IsSubregion c.args.self.now a b) (sym computed)
    (is_subregion-derivable c.args.self.now a b)
