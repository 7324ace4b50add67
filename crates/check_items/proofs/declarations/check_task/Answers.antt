use Rattle.std.specs.List.{list_any}
use Rattle.std.specs.Option.{option_or}
use Rattle.std.specs.Prelude.{None}
use Rattle.regent_tree.specs.PlainProgram.{tree_of}
use Rattle.check_rules.specs.rules.Clauses.{misdeclares}
use Rattle.check_rules.specs.types.Declarations.{is_no_result_type}
use Rattle.check_rules.specs.first.FirstInStatements.{told_on}
use Rattle.check_rules.specs.first.Rules.{rule_if}
use Rattle.check_rules.specs.declared.rule.Rule.TheVariants as rule
use Rattle.static_types.specs.Telling.{Anything}
use Rattle.check_items.proofs.Declaring.{told_after}
use Rattle.check_items.proofs.declarations.check_task.Goals as goal

pub returns : goal.returns
returns c =
    let task = c.args.task.now in
    let bound = rw c.as_slice.ensures at c.in_ok-names.ensures in
    told_after Anything c.check_promises.result _ _
    (λ names. option_or (told_on c.args.line (rule_if (is_no_result_type task.result) rule.Return))
    (option_or (told_on c.args.line (rule_if (list_any (misdeclares (tree_of c.args.tables.now) names) task.clauses) rule.Declared)) None))
    _ _ bound.0 bound.1 c.check_promises.ensures
