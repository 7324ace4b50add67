use Rattle.std.proofs.Common.{◌≡◌, ◌∙◌, ◌||◌, Bool, List, subst, sym, ap, true, ◌↔◌, rules, tests}
use Rattle.std.specs.List.{list_any}
use Rattle.std.proofs.lemmas.Iterator.{YieldsList-from_slice}
use Rattle.std.proofs.lemmas.Iterator.Search.{any_from_yields_List}
use Rattle.regent_tree.specs.Facts.{Row, closed, parts_either}
use Rattle.regent_tree.specs.declared.facts.Known.{Known}
use Rattle.constraint_check.specs.Derivations.{IsDisjoint}
use Rattle.constraint_check.specs.Looking.{StandFor, parts_over}
use Rattle.constraint_check.proofs.Apartness.{are_disjoint-derivable}
use Rattle.constraint_check.proofs.Few.{few_part_either}
use Rattle.regent_tree.proofs.Members.{list_any-map}
use Rattle.constraint_check.proofs.closure.Facts.disjoint.Goals as goal

pub returns-clause-computed : goal.returns-clause-computed
returns-clause-computed c =
    let a = c.args.a.now in
    let b = c.args.b.now in
    let rows : List Row = c.self.inside.rows.items in
    let over_a : List Row = c.rows_raising-over_a.result.now in
    let over_b : List Row = c.rows_raising-over_b.result.now in
    let few : Known → Bool = λ k. parts_over over_a over_b a b k || parts_over over_b over_a b a k in
    let test = parts_either rows a b in
    let few_a : StandFor over_a rows a = subst (λ (r : List Row). StandFor over_a r a) c.deref.ensures.value c.rows_raising-over_a.ensures in
    let few_b : StandFor over_b rows b = subst (λ (r : List Row). StandFor over_b r b) c.deref-2.ensures.value c.rows_raising-over_b.ensures in
    let found : c.any.result ≡ list_any (λ (row : Row). few row.0) rows =
    any_from_yields_List (λ (row : Row). few row.0) _ _ _ c.any.ensures.ran
    (YieldsList-from_slice rows cc) (λ x d q k. search (rules, tests)) in
    let same : list_any (λ (row : Row). few row.0) rows ≡ list_any (λ (row : Row). test row.0) rows =
    λ j. list_any (λ (row : Row). few_part_either rows over_a over_b a b few_a few_b row.0 j) rows in
    let rows_are : rows ≡ closed c.args.self.now = c.self.invariant ∙ ap closed c.self.view_is in
    found ∙ same ∙ list_any-map test (λ (row : Row). row.0) rows
    ∙ ap (λ (facts : List Known). list_any test facts) c.self.view_is
    ∙ ap (λ (table : List Row). list_any (parts_either table a b) c.args.self.now) rows_are

pub returns-clause-derivable : goal.returns-clause-derivable
returns-clause-derivable c =
    subst (λ r. (r ≡ true) ↔ IsDisjoint c.args.self.now c.args.a.now c.args.b.now) (sym (returns-clause-computed c))
    (are_disjoint-derivable c.args.self.now c.args.a.now c.args.b.now)
