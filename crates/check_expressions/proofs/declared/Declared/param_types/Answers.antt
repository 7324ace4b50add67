use Rattle.std.proofs.Common.{IfOk, ap, subst, ◌≡◌}
use Rattle.regent_tree.specs.PlainProgram.{task_of, tree_of}
use Rattle.check_rules.specs.scopes.Sound.{IsSound}
use Rattle.check_rules.proofs.Written.{typed_soundly}
use Rattle.check_expressions.proofs.declared.Declared.param_types.Goals as goal

pub returns : goal.returns
returns c =
    let all = subst (λ p. IsSound (tree_of p)) c.self.view_is c.self.invariant in
    let sound = all.tasks (task_of c.args.task.now) c.requires in
    let same = typed_soundly (tree_of c.self.inside.tables) (tree_of c.args.self.now) c.as_slice.result.now (task_of c.args.task.now)
    (ap tree_of c.self.view_is) c.as_slice.ensures sound in
    subst (λ ts. IfOk c.said_params.result (λ types. types.items ≡ ts)) same c.said_params.ensures
