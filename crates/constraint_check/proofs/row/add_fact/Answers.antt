use Rattle.std.proofs.Common.{◌≡◌, ◌∙◌, ◌++◌, ◌∷◌, [], List, ap, false, sym}
use Rattle.std.specs.List.{list_any}
use Rattle.regent_tree.specs.Facts.{Row, above_end, raises}
use Rattle.constraint_check.proofs.Widening.{all_kept}
use Rattle.constraint_check.proofs.row.add_fact.Goals as goal

pub returns-clause-ok : goal.returns-clause-ok
returns-clause-ok c =
    let rows = c.args.rows.now.items in
    let k = c.args.known in
    let above : c.in_ok-above.above.items ≡ above_end rows k =
    c.in_ok-above.ensures ∙ ap (λ (r : List Row). above_end r k) c.deref.ensures.value in
    let kept : list_any (λ (row : Row). list_any (raises k) row.1) rows ≡ false =
    ap (λ (r : List Row). list_any (λ (row : Row). list_any (raises k) row.1) r) (sym c.deref-2.ensures.value)
    ∙ sym c.widens_any.ensures ∙ c.if-widens_any.false in
    c.in_ok-push.ensures.items ∙ (λ j. sym (all_kept k (above_end rows k) rows kept) j ++ (k, above j) ∷ [])
