use Rattle.std.proofs.Common.{refl}
use Rattle.check_expressions.specs.Seen.{seen}
use Rattle.check_expressions.specs.Sites.{task_at, tree_at}
use Rattle.check_variables.proofs.Varied.{by_type_bound, by_type_none}
use Rattle.check_variables.proofs.variables.by_type.Goals as goal

pub returns : goal.returns
returns c =
    let tree = tree_at c.args.site.now in
    let s = seen c.args.scope.now in
    let declared = c.in_ok-static_type.static_type in
    let right = rw c.is_collection.ensures at c.in_ok-at.ensures.0 in (
      by_type_none tree (task_at c.args.site.now) s c.args.term.now declared c.in_ok-static_type.ensures.0 c.in_ok-static_type.ensures.1 right,
      (by_type_bound tree s c.args.term.now declared c.in_ok-static_type.ensures.1 right, refl),
    )
