use Rattle.std.proofs.Common.{◌≡◌, sym, ap, Some, ◌∙◌}
use Rattle.regent_tree.specs.StaticTypes.{task_named}
use Rattle.regent_tree.specs.Syntax.{TaskTree}
use Rattle.check_rules.specs.types.TypedForms.{calling}
use Rattle.check_rules.specs.first.FirstInExpressions.{first_of_call}
use Rattle.check_expressions.specs.Seen.{seen}
use Rattle.check_expressions.specs.Sites.{task_at, tree_at}
use Rattle.check_expressions.proofs.Called.{told_no_more, valued}
use Rattle.check_expressions.proofs.calls.call_in_expression.Goals as goal

pub returns : goal.returns
returns c =
    let tree = tree_at c.args.site.now in
    let task = task_at c.args.site.now in
    let s = seen c.args.scope.now in
    let call = calling c.args.name.now c.args.types.now in
    let told = c.in_ok-task.ensures in
    let with_term : (task_named tree c.args.name.now).result ≡ Some c.in-Some.term =
    ap (λ (t : TaskTree). t.result) (sym told.1) ∙ c.in-Some.is in (
      told_no_more tree call (first_of_call tree task s call) c.in-Some.term told.0 with_term,
      valued tree task s call c.in-Some.term c.value_type.result told.0 with_term
          c.has_sound_results.ensures (sym c.any_unknown.ensures ∙ c.if-any_unknown.false)
          (c.value_type.ensures tree),
    )
