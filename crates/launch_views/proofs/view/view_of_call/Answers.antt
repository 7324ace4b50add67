use Rattle.std.proofs.Common.{◌≡◌, ◌∙◌, None, subst}
use Rattle.check_rules.specs.first.FirstInExpressions.{first_of_call}
use Rattle.check_rules.specs.types.TypedForms.{calling}
use Rattle.check_expressions.specs.Seen.{seen}
use Rattle.check_expressions.specs.Sites.{task_at, tree_at}
use Rattle.launch_views.proofs.Laws.{neither}
use Rattle.launch_views.proofs.view.view_of_call.Goals as goal

pub returns : goal.returns
returns c =
    let site = c.args.site.now in
    let called = subst (λ types. first_of_call (tree_at site) (task_at site) (seen c.args.scope.now) (calling c.args.name.now types) ≡ None)
    (c.deref.ensures.value ∙ c.in_ok-types.ensures.1) c.in_ok-task.ensures.0 in
    (neither _ _ c.in_ok-types.ensures.0 called, c.in_ok-assembled.ensures)
