use Rattle.std.proofs.Common.{◌∙◌, rules, sym}
use Rattle.read_limits.proofs.Laws.{item_found, item_passed}
use Rattle.read_limits.proofs.Lists.{items_listed}
use Rattle.read_limits.proofs.program.in_items.Goals as goal

pub returns-in-Some : goal.returns-in-Some
returns-in-Some c =
    item_found items_listed c.args.items.now c.loop-item.item-index c.item-item.result _ _ (search rules) c.item-item.is
    (sym c.in-Some.is ∙ c.in_item.ensures) c.loop-item.invariant

pub loop-item-preserved : goal.loop-item-preserved
loop-item-preserved c =
    item_passed items_listed c.args.items.now c.loop-item.item-index c.item-item.result _ (search rules) c.item-item.is
    (sym c.in_default.is ∙ c.in_item.ensures) c.loop-item.invariant
