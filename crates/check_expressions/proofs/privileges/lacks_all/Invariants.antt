use Rattle.std.proofs.Common.{◌≡◌, drop}
use Rattle.check_rules.specs.rules.Privileges.{lacks}
use Rattle.check_expressions.specs.Seen.{seen}
use Rattle.check_expressions.specs.Sites.{task_at, tree_at}
use Rattle.check_expressions.proofs.privileges.lacks_all.Given as goal

abbrev pub invariant-loop-one : goal.invariant-loop-one
invariant-loop-one l = lacks (tree_at l.site) (task_at l.site) (seen l.scope) (drop l.one-index l.wanted)
    ≡ lacks (tree_at l.site) (task_at l.site) (seen l.scope) l.wanted
