use Rattle.regent_tree.specs.Plain.{expression_of}
use Rattle.check_expressions.specs.Seen.{seen}
use Rattle.check_expressions.specs.Sites.{task_at, tree_at}
use Rattle.static_types.specs.Telling.{Anything}
use Rattle.check_forms.proofs.Assigned.{told_by_target}
use Rattle.check_forms.proofs.assignments.assign.Goals as goal

pub returns : goal.returns
returns c =
    told_by_target (tree_at c.args.site.now) (task_at c.args.site.now) (seen c.args.scope.now) c.args.name.now
    Anything c.check_target.result c.args.steps.now c.args.how (expression_of c.args.value.now) c.in_ok-t.t c.in_ok-target.target
    c.in_ok-target.ensures.1 c.in_ok-t.ensures.1 c.in_ok-t.ensures.0 c.in_ok-target.ensures.0 c.check_target.ensures
