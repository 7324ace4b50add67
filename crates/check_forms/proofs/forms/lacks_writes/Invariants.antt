use Rattle.std.proofs.Common.{◌≡◌, drop}
use Rattle.std.specs.Prelude.{flat_map}
use Rattle.regent_tree.specs.declared.rights.Access.TheVariants.{Write}
use Rattle.check_rules.specs.rules.Privileges.{lacks, wanted_of_region}
use Rattle.check_expressions.specs.Seen.{seen}
use Rattle.check_expressions.specs.Sites.{task_at, tree_at}
use Rattle.check_forms.proofs.forms.lacks_writes.Given as goal

abbrev pub invariant-loop-field : goal.invariant-loop-field
invariant-loop-field l =
    lacks (tree_at l.site) (task_at l.site) (seen l.scope) (flat_map (wanted_of_region (tree_at l.site) Write l.region) (drop l.field-index l.fields))
    ≡ lacks (tree_at l.site) (task_at l.site) (seen l.scope) (flat_map (wanted_of_region (tree_at l.site) Write l.region) l.fields)
