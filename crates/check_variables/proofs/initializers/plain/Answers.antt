use Rattle.std.proofs.Common.{rules, ◌≡◌, false}
use Rattle.regent_tree.specs.Plain.{expression_of}
use Rattle.check_rules.specs.rules.Partitions.{is_difference}
use Rattle.check_rules.specs.types.KnownTypes.{known_type}
use Rattle.check_variables.specs.Beginning.{IsBegun, IsOfType}
use Rattle.regent_tree.specs.Syntax.{plain_initializer}
use Rattle.check_expressions.specs.Seen.{seen}
use Rattle.check_expressions.specs.Sites.{task_at, tree_at}
use Rattle.check_variables.proofs.InitializerForms.{first_of_plain, plain_begun, tells_as}
use Rattle.check_variables.proofs.initializers.plain.Goals as goal

pub returns-in-None : goal.returns-in-None
returns-in-None c =
    let tree = tree_at c.args.site.now in
    let task = task_at c.args.site.now in
    let s = seen c.args.scope.now in
    let e = expression_of c.args.e.now in
    let other : is_difference s.names e ≡ false = search rules in
    tells_as (IsOfType s (known_type tree s e)) (IsBegun tree s (plain_initializer e)) c.expressed.result _ _ (first_of_plain tree task s e other)
    (λ b told found. plain_begun tree s e b other found.0 found.1)
    c.expressed.ensures
