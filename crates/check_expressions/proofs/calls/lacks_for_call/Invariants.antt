use Rattle.std.proofs.Common.{◌≡◌, drop}
use Rattle.std.specs.Prelude.{flat_map}
use Rattle.check_rules.specs.rules.Privileges.{lacks}
use Rattle.check_expressions.specs.Calls.{wanted_for}
use Rattle.check_expressions.specs.Seen.{seen}
use Rattle.check_expressions.specs.Sites.{task_at, tree_at}
use Rattle.check_expressions.proofs.calls.lacks_for_call.Given as goal

abbrev pub invariant-loop-right : goal.invariant-loop-right
invariant-loop-right l = lacks (tree_at l.site) (task_at l.site) (seen l.scope) (flat_map (wanted_for l.params l.types) (drop l.right-index l.rights))
    ≡ lacks (tree_at l.site) (task_at l.site) (seen l.scope) (flat_map (wanted_for l.params l.types) l.rights)
