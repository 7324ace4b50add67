use Rattle.std.proofs.Common.{rules, ◌≡◌, ◌<◌, true, get_or, length, sym, ◌∙◌}
use Rattle.plain_store.specs.Columns.{is_root}
use Rattle.plain_store.proofs.Placing.{place_found}
use Rattle.plain_store.proofs.columns.place_of.Goals as goal

pub returns-else-has_root : goal.returns-else-has_root
returns-else-has_root c =
    let rs = c.args.roots.now in
    let i = c.loop-place.place in
    let below : i < length rs = search (rules) in
    let this : is_root c.args.root.0 (get_or rs i c.index-roots-place.result) ≡ true = search (rules) in
    let none = sym c.has_root.ensures ∙ c.if-has_root.false in
    place_found rs c.args.root.0 i c.index-roots-place.result below c.loop-place.invariant this none
