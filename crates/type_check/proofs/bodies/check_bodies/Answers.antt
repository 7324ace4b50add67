use Rattle.std.proofs.Common.{◌≡◌, ap, map, subst, ◌∙◌}
use Rattle.regent_tree.specs.PlainProgram.{item_tree_of, task_of}
use Rattle.regent_tree.specs.declared.program.Program.{Program}
use Rattle.check_rules.specs.scopes.Sound.{StandsIn}
use Rattle.check_rules.proofs.Written.{stands_at}
use Rattle.type_check.proofs.bodies.check_bodies.Goals as goal

pub check_body-requires : goal.check_body-requires
check_body-requires c =
    let items : c.deref-item-items.result.now ≡ c.args.declared.now.items.items =
    c.deref-item-items.ensures.value ∙ ap (λ (p : Program). p.items.items) (c.program-program.ensures ∙ c.tables.ensures) in
    subst (λ xs. StandsIn (map item_tree_of xs) (task_of c.in-Task.task)) items
    (stands_at c.deref-item-items.result.now c.loop-item.item-index c.item-item.result c.in-Task.task
    c.loop-item-test.true c.item-item.is c.in-Task.is)
