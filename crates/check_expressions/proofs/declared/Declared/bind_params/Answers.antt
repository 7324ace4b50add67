use Rattle.std.proofs.Common.{IfOk, ap, subst, ◌≡◌}
use Rattle.regent_tree.specs.PlainProgram.{task_of, tree_of}
use Rattle.check_rules.specs.scopes.Sound.{IsSound}
use Rattle.check_rules.proofs.Written.{bound_soundly}
use Rattle.check_expressions.proofs.declared.Declared.bind_params.Goals as goal

pub returns : goal.returns
returns c =
    let all = subst (λ p. IsSound (tree_of p)) c.self.view_is c.self.invariant in
    let sound = all.tasks (task_of c.args.task.now) c.requires in
    let same = bound_soundly (tree_of c.self.inside.tables) (tree_of c.args.self.now) c.as_slice.result.now (task_of c.args.task.now)
    (ap tree_of c.self.view_is) c.as_slice.ensures sound in
    subst (λ bs. IfOk c.bind_written.result (λ names. names ≡ bs)) same c.bind_written.ensures
