use Rattle.std.proofs.Common.{◌≡◌, ◌++◌, drop}
use Rattle.regent_tree.specs.Plain.{expressions_in, links_in, steps_in}
use Rattle.check_rules.specs.first.FirstInExpressions.{first_in_args, first_in_links, first_in_steps}
use Rattle.check_rules.specs.types.KnownTypes.{known_types, known_type_after_links, known_type_after_steps}
use Rattle.check_expressions.specs.Seen.{seen}
use Rattle.check_expressions.specs.Sites.{task_at, tree_at}
use Rattle.check_expressions.proofs.expressions.+expression.Given as goal

abbrev pub invariant-links-loop-link : goal.invariant-links-loop-link
invariant-links-loop-link l = record {
  told : first_in_links (tree_at l.site) (task_at l.site) (seen l.scope) l.left (links_in (drop l.link-index l.rest))
      ≡ first_in_links (tree_at l.site) (task_at l.site) (seen l.scope) l.fn.first (links_in l.rest);
  known : known_type_after_links (tree_at l.site) (seen l.scope) l.left (links_in (drop l.link-index l.rest))
      ≡ known_type_after_links (tree_at l.site) (seen l.scope) l.fn.first (links_in l.rest);
}

abbrev pub invariant-arguments-loop-arg : goal.invariant-arguments-loop-arg
invariant-arguments-loop-arg l = record {
  told : first_in_args (tree_at l.site) (task_at l.site) (seen l.scope) (expressions_in (drop l.arg-index l.args))
      ≡ first_in_args (tree_at l.site) (task_at l.site) (seen l.scope) (expressions_in l.args);
  known : l.types.items ++ known_types (tree_at l.site) (seen l.scope) (expressions_in (drop l.arg-index l.args))
      ≡ known_types (tree_at l.site) (seen l.scope) (expressions_in l.args);
}

abbrev pub invariant-walk-loop-step : goal.invariant-walk-loop-step
invariant-walk-loop-step l = record {
  told : first_in_steps (tree_at l.site) (task_at l.site) (seen l.scope) l.t (steps_in (drop l.step-index l.steps))
      ≡ first_in_steps (tree_at l.site) (task_at l.site) (seen l.scope) l.fn.head (steps_in l.steps);
  known : known_type_after_steps (tree_at l.site) (seen l.scope) l.t (steps_in (drop l.step-index l.steps))
      ≡ known_type_after_steps (tree_at l.site) (seen l.scope) l.fn.head (steps_in l.steps);
}
