use Rattle.std.proofs.Common.{subst}
use Rattle.regent_tree.specs.PlainProgram.{task_of, tree_of}
use Rattle.check_rules.specs.scopes.Sound.{IsSound}
use Rattle.check_rules.proofs.Written.{body_scope_written}
use Rattle.check_expressions.proofs.declared.Declared.has_sound_task.Goals as goal

pub returns-clause-scope : goal.returns-clause-scope
returns-clause-scope c =
    let all = subst (λ p. IsSound (tree_of p)) c.self.view_is c.self.invariant in
    body_scope_written _ _ (all.tasks (task_of c.args.task.now) c.requires)

pub returns-clause-returns : goal.returns-clause-returns
returns-clause-returns c =
    let all = subst (λ p. IsSound (tree_of p)) c.self.view_is c.self.invariant in
    (all.tasks (task_of c.args.task.now) c.requires).result
