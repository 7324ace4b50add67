use Rattle.std.proofs.Common.{◌≡◌, ◌∙◌, sym, ap, List, true, false, cond}
use Rattle.std.specs.List.{list_any}
use Rattle.std.proofs.lemmas.Bool.{cond-true, cond-false}
use Rattle.regent_tree.specs.Facts.{raises, united, widened, Row}
use Rattle.regent_tree.specs.declared.facts.Term.{Term}
use Rattle.constraint_check.proofs.row.Row.widened.Goals as goal
use Rattle.constraint_check.proofs.row.Row.widened.Goals.{then-widens+in_ok-unite, else-widens}

pub returns : goal.returns
returns c =
    let items : List Term = c.self.inside.above.items in
    let more : List Term = c.args.more.now in
    let test = raises c.args.known.now in
    let found : c.widens.result ≡ list_any test items = c.widens.ensures ∙ ap (λ (row : Row). list_any test row.1) (sym c.self.view_is) in
    let above_is : c.if-widens.above.items ≡ cond (list_any test items) (united items more) items =
    elim c.if-widens.branch [
      | then-widens+in_ok-unite w ↦
          let raised : list_any test items ≡ true = cc in
          let united_is : c.if-widens.above.items ≡ united items more = cc (w.in_ok-unite.ensures, w.above-is, c.in_ok-above.ensures.items, c.deref.ensures.value) in
          united_is ∙ sym (cond-true (list_any test items) (united items more) items raised)
      | else-widens w ↦
          let raised : list_any test items ≡ false = cc in
          let same_is : c.if-widens.above.items ≡ items = cc (w.above-is, c.in_ok-above.ensures.items, c.deref.ensures.value) in
          same_is ∙ sym (cond-false (list_any test items) (united items more) items raised)
    ] in
    let pair : List Term → Row = λ terms. (c.self.inside.known, terms) in
    ap pair above_is ∙ ap (widened c.args.known.now more) c.self.view_is
