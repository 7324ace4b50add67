use Rattle.std.proofs.Common.{◌++◌, ◌≡◌, drop}
use Rattle.regent_tree.specs.PlainProgram.{arms_in, block_in}
use Rattle.check_rules.specs.first.FirstInStatements.{first_in_arms, first_in_block}
use Rattle.check_rules.specs.scopes.Variables.{known_scope_after_arms, known_scope_after_block}
use Rattle.check_rules.specs.scopes.Visits.{visits_in, visits_in_arms}
use Rattle.check_expressions.specs.Seen.{seen}
use Rattle.check_expressions.specs.Sites.{task_at, tree_at}
use Rattle.type_check.specs.Loops.{loops_of}
use Rattle.type_check.proofs.statements.+statement.Given as goal

abbrev pub invariant-block-loop-stmt : goal.invariant-block-loop-stmt
invariant-block-loop-stmt l = record {
  told : first_in_block (tree_at l.site) (task_at l.site) (seen l.scope) (block_in (drop l.stmt-index l.body))
      ≡ first_in_block (tree_at l.site) (task_at l.site) (seen l.fn.scope) (block_in l.body);
  known : known_scope_after_block (tree_at l.site) (seen l.scope) (block_in (drop l.stmt-index l.body))
      ≡ known_scope_after_block (tree_at l.site) (seen l.fn.scope) (block_in l.body);
  found : l.found ++ loops_of (tree_at l.site) (visits_in (tree_at l.site) (task_at l.site) (seen l.scope) (block_in (drop l.stmt-index l.body)))
      ≡ l.fn.found ++ loops_of (tree_at l.site) (visits_in (tree_at l.site) (task_at l.site) (seen l.fn.scope) (block_in l.body));
}

abbrev pub invariant-arm_blocks-loop-arm : goal.invariant-arm_blocks-loop-arm
invariant-arm_blocks-loop-arm l = record {
  told : first_in_arms (tree_at l.site) (task_at l.site) (seen l.scope) (arms_in (drop l.arm-index l.arms))
      ≡ first_in_arms (tree_at l.site) (task_at l.site) (seen l.fn.scope) (arms_in l.arms);
  known : known_scope_after_arms (tree_at l.site) (seen l.scope) (arms_in (drop l.arm-index l.arms))
      ≡ known_scope_after_arms (tree_at l.site) (seen l.fn.scope) (arms_in l.arms);
  found : l.found ++ loops_of (tree_at l.site) (visits_in_arms (tree_at l.site) (task_at l.site) (seen l.scope) (arms_in (drop l.arm-index l.arms)))
      ≡ l.fn.found ++ loops_of (tree_at l.site) (visits_in_arms (tree_at l.site) (task_at l.site) (seen l.fn.scope) (arms_in l.arms));
}
