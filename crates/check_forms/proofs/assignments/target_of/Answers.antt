use Rattle.std.proofs.lemmas.Result.{err_from_is_err_and}
use Rattle.check_expressions.specs.Seen.{seen}
use Rattle.check_expressions.specs.Sites.{task_at, tree_at}
use Rattle.check_forms.proofs.Assigned.{stops_before, target_ends}
use Rattle.check_forms.proofs.assignments.target_of.Goals as goal

pub returns-in_err-holder : goal.returns-in_err-holder
returns-in_err-holder c =
    let p = err_from_is_err_and c.from_residual-in_err-holder.result c.from_residual-in_err-holder.ensures.1 in
    rw (p.1, p.2) (stops_before (tree_at c.args.site.now) (task_at c.args.site.now) (seen c.args.scope.now) c.args.name.now
    c.in_err-holder.field-0.0 c.args.steps.now c.in-Some.front.now c.in-Some.last.now c.in_ok-initializer.initializer
    c.in-Some.ensures c.in_ok-initializer.ensures.0 c.in_ok-initializer.ensures.1 c.in_err-holder.ensures)

pub returns : goal.returns
returns c =
    target_ends (tree_at c.args.site.now) (task_at c.args.site.now) (seen c.args.scope.now) c.args.name.now
    c.at_last.result c.args.steps.now c.in-Some.front.now c.in-Some.last.now c.in_ok-initializer.initializer c.in_ok-holder.holder
    c.in-Some.ensures c.in_ok-initializer.ensures.0 c.in_ok-initializer.ensures.1 c.in_ok-holder.ensures.0 c.in_ok-holder.ensures.1
    c.at_last.ensures
