use Rattle.std.proofs.lemmas.Result.{err_from_is_err_and}
use Rattle.regent_tree.specs.Plain.{expression_of}
use Rattle.check_expressions.specs.Seen.{seen}
use Rattle.check_expressions.specs.Sites.{task_at, tree_at}
use Rattle.static_types.specs.Telling.{Anything}
use Rattle.check_forms.proofs.ByForm.{fill_last, fill_stop}
use Rattle.check_forms.proofs.forms.fill.Goals as goal

pub returns-in_err-fields_take : goal.returns-in_err-fields_take
returns-in_err-fields_take c =
    let p = err_from_is_err_and c.from_residual-in_err-fields_take.result c.from_residual-in_err-fields_take.ensures.1 in
    let target = rw c.names.ensures at c.in_ok-target.ensures in
    rw (p.1, p.2) (fill_stop (tree_at c.args.site.now) (task_at c.args.site.now) (seen c.args.scope.now) c.args.region.now
    c.args.fields.now (expression_of c.args.value.now) c.in_ok-target.target.now c.in_ok-t.t c.in_err-fields_take.field-0.0
    target.1 c.in_ok-t.ensures.1 c.in_ok-t.ensures.0 target.0 c.in_err-fields_take.ensures)

pub returns : goal.returns
returns c =
    let target = rw c.names.ensures at c.in_ok-target.ensures in
    let lacks = c.in_ok-lacks.ensures in
    fill_last (tree_at c.args.site.now) (task_at c.args.site.now) (seen c.args.scope.now) Anything c.at.result c.args.region.now
    c.args.fields.now (expression_of c.args.value.now) c.in_ok-target.target.now c.in_ok-t.t
    target.1 c.in_ok-t.ensures.1 c.in_ok-t.ensures.0 target.0 c.in_ok-fields_take.ensures.0
    (rw (← lacks) c.at.ensures)
