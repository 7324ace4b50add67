use Rattle.regent_tree.specs.Plain.{expression_of}
use Rattle.check_expressions.specs.Seen.{seen}
use Rattle.check_expressions.specs.Sites.{task_at, tree_at}
use Rattle.check_variables.proofs.InitializerForms.{first_of_region, region_begun, tells_as}
use Rattle.check_rules.specs.types.KnownTypes.{known_type}
use Rattle.check_variables.specs.Beginning.{IsBegun, IsOver}
use Rattle.regent_tree.specs.Syntax.{region_initializer}
use Rattle.check_variables.proofs.initializers.region.Goals as goal

pub returns : goal.returns
returns c =
    let tree = tree_at c.args.site.now in
    let task = task_at c.args.site.now in
    let s = seen c.args.scope.now in
    let e = expression_of c.args.space.now in
    let u = c.args.fields.now in
    tells_as (IsOver tree s (known_type tree s e) u) (IsBegun tree s (region_initializer e u)) c.region_over.result _ _ (first_of_region tree task s e u c.in_ok-t.ensures.0)
    (λ b told found. region_begun tree s e u b told found.0 found.1)
    (rw (← c.in_ok-t.ensures.1) c.region_over.ensures)
