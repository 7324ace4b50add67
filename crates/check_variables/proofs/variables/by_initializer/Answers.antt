use Rattle.regent_tree.specs.Plain.{initializer_of}
use Rattle.check_expressions.specs.Seen.{seen}
use Rattle.check_expressions.specs.Sites.{task_at, tree_at}
use Rattle.check_variables.proofs.Varied.{by_initializer_bound, by_initializer_none}
use Rattle.check_variables.proofs.variables.by_initializer.Goals as goal

pub returns : goal.returns
returns c =
    let tree = tree_at c.args.site.now in
    let s = seen c.args.scope.now in
    let i = initializer_of c.args.init.now in
    let begun = c.in_ok-begun.begun.static_type in
    let right = rw (c.has_wrong_initializer.ensures, c.names.ensures) at c.in_ok-at.ensures.0 in (
      by_initializer_none tree (task_at c.args.site.now) s i begun c.in_ok-begun.ensures.0 c.in_ok-begun.ensures.1.0 right,
      (by_initializer_bound tree s i begun c.in_ok-begun.ensures.1.0 right, c.in_ok-begun.ensures.1.1),
    )
