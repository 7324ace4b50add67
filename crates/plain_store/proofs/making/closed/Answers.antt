use Rattle.std.proofs.Common.{rules, ◌≡◌, ◌∙◌, List, ap, not}
use Rattle.std.specs.Prelude.{filter}
use Rattle.std.proofs.lemmas.Fn.{filter_same}
use Rattle.machine_terms.specs.Contents.{is_among}
use Rattle.machine_terms.specs.declared.order.Contents.{Contents}
use Rattle.machine_terms.specs.declared.order.Root.{Root}
use Rattle.plain_store.proofs.making.closed.Goals as goal

pub returns : goal.returns
returns c =
    let stays = λ (r : Root). not (is_among c.args.ids.now r) in
    let kept : c.retain.new.self.items ≡ filter stays c.into_vec-kept.result.items =
    filter_same _ stays _ (λ x b f k. search rules) _ _ c.retain.ensures.filtered in
    ap (λ (rs : List Root). let now : Contents = record { made = c.args.contents.made; roots = rs } in now)
    (c.from_vec.ensures ∙ kept ∙ ap (λ (rs : List Root). filter stays rs) c.into_vec-kept.ensures)
