use Rattle.std.proofs.Common.{subst}
use Rattle.regent_tree.specs.PlainProgram.{tree_of}
use Rattle.regent_tree.specs.StaticTypes.{task_named}
use Rattle.check_rules.specs.scopes.Sound.{IsSound}
use Rattle.check_rules.proofs.Written.{rights_soundly, told_soundly}
use Rattle.check_expressions.proofs.declared.Declared.has_sound_clauses.Goals as goal

pub returns-clause-clauses : goal.returns-clause-clauses
returns-clause-clauses c =
    let tree = tree_of c.args.self.now in
    let all = subst (λ p. IsSound (tree_of p)) c.self.view_is c.self.invariant in
    told_soundly tree (task_named tree c.args.name.now) (all.clauses c.args.name.now)

pub returns-clause-rights : goal.returns-clause-rights
returns-clause-rights c =
    let tree = tree_of c.args.self.now in
    let all = subst (λ p. IsSound (tree_of p)) c.self.view_is c.self.invariant in
    rights_soundly tree (task_named tree c.args.name.now) (all.clauses c.args.name.now)
