use Rattle.std.proofs.Common.{◌≡◌, ◌++◌, drop, map}
use Rattle.regent_tree.specs.PlainProgram.{arms_in}
use Rattle.check_rules.specs.first.FirstInExpressions.{first_in_expression}
use Rattle.check_rules.specs.types.KnownTypes.{known_type}
use Rattle.check_rules.specs.types.Parts.{tests_of}
use Rattle.check_rules.specs.first.Rules.{first_in}
use Rattle.check_expressions.specs.Seen.{seen}
use Rattle.check_expressions.specs.Sites.{task_at, tree_at}
use Rattle.check_forms.proofs.heads.types_of_tests.Given as goal

abbrev pub invariant-loop-arm : goal.invariant-loop-arm
invariant-loop-arm l = record {
  told : first_in (first_in_expression (tree_at l.site) (task_at l.site) (seen l.scope)) (tests_of (arms_in (drop l.arm-index l.arms)))
      ≡ first_in (first_in_expression (tree_at l.site) (task_at l.site) (seen l.scope)) (tests_of (arms_in l.arms));
  known : l.types.items ++ map (known_type (tree_at l.site) (seen l.scope)) (tests_of (arms_in (drop l.arm-index l.arms)))
      ≡ map (known_type (tree_at l.site) (seen l.scope)) (tests_of (arms_in l.arms));
}
