use Rattle.std.proofs.Common.{Some, ap, sym, ◌∙◌}
use Rattle.regent_tree.specs.Lookup.{has_task}
use Rattle.regent_tree.specs.PlainProgram.{tree_of}
use Rattle.regent_tree.specs.StaticTypes.{task_named}
use Rattle.check_rules.specs.Breaches.{breaks}
use Rattle.check_rules.specs.first.Rules.{number_of}
use Rattle.check_rules.specs.declared.rule.Rule.TheVariants as rule
use Rattle.check_items.proofs.Entries.{none_missing, one_missing}
use Rattle.check_items.proofs.entry.entry_task.Goals as goal

pub returns-in-Some : goal.returns-in-Some
returns-in-Some c =
    let tree = tree_of c.args.tables.now in
    let same = c.in_ok-name.ensures ∙ c.requires in (
      none_missing tree c.args.start_item c.requires (sym (c.in-Some.ensures.found ∙ ap (has_task tree) same)),
      c.in-Some.ensures.task ∙ ap (task_named tree) same,
    )

pub returns : goal.returns
returns c =
    let tree = tree_of c.args.tables.now in
    let same = c.in_ok-name.ensures ∙ c.requires in
    one_missing tree c.args.start_item c.requires (sym (c.in-None.ensures.found ∙ ap (has_task tree) same))
    ∙ ap (λ n. Some (breaks (number_of rule.Start) n)) (sym c.line_of_start_item.ensures)
