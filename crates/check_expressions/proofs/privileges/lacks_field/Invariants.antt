use Rattle.std.proofs.Common.{◌≡◌, drop, map}
use Rattle.check_rules.specs.rules.Privileges.{lacks, regions_named, wanting}
use Rattle.check_expressions.specs.Seen.{seen}
use Rattle.check_expressions.specs.Sites.{task_at, tree_at}
use Rattle.check_expressions.proofs.privileges.lacks_field.Given as goal

abbrev pub invariant-loop-region : goal.invariant-loop-region
invariant-loop-region l = lacks (tree_at l.site) (task_at l.site) (seen l.scope) (map (wanting l.field l.access) (regions_named (drop l.region-index l.regions)))
    ≡ lacks (tree_at l.site) (task_at l.site) (seen l.scope) (map (wanting l.field l.access) (regions_named l.regions))
