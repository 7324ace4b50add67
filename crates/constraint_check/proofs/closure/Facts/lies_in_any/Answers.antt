use Rattle.std.proofs.Common.{◌≡◌, ◌∙◌, List, ap, subst, ℕ}
use Rattle.std.specs.List.{list_any}
use Rattle.regent_tree.specs.Facts.{Row, alike, closed, is_below}
use Rattle.regent_tree.specs.declared.facts.Term.TheVariants.{Name}
use Rattle.constraint_check.specs.Looking.{StandFor}
use Rattle.constraint_check.proofs.closure.Facts.lies_in_any.Goals as goal

pub returns : goal.returns
returns c =
    let a = c.args.a.now in
    let rows : List Row = c.self.inside.rows.items in
    let few : List Row = c.rows_raising.result.now in
    let stand : StandFor few rows a = subst (λ (r : List Row). StandFor few r a) c.deref.ensures.value c.rows_raising.ensures in
    let table : rows ≡ closed c.args.self.now = c.self.invariant ∙ ap closed c.self.view_is in
    let each : (n : ℕ) → is_below few a (Name n) ≡ is_below (closed c.args.self.now) a (Name n) =
    λ n. stand (alike (Name n)) ∙ ap (λ (r : List Row). is_below r a (Name n)) table in
    c.is_below_any.ensures ∙ (λ j. list_any (λ n. each n j) c.args.names.now)
