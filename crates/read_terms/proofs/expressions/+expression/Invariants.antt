use Rattle.std.proofs.Common.{◌≡◌, ◌≤◌, ◌+◌, ◌*◌, length, map}
use Rattle.regent_tree.specs.Plain.{expression_of}
use Rattle.regent_grammar.specs.Reading.{reading}
use Rattle.regent_grammar.specs.Rules.{many, ◌⊳◌}
use Rattle.regent_grammar.specs.Singles.{a_mark}
use Rattle.regent_grammar.specs.Symbols.{comes, is_mark}
use Rattle.regent_grammar.specs.Expressions.{expression, is_operator, link, begins_step, step}
use Rattle.regent_lex.specs.declared.tables.Mark.TheVariants as mark
use Rattle.read_terms.specs.Gives.{with_front}
use Rattle.read_terms.specs.Levels.{rank, operator_at, rule_at}
use Rattle.read_terms.specs.Nodes.{joined_of, stepped_of}
use Rattle.read_terms.proofs.expressions.+expression.Given as goal

-- Each call comes behind a terminal that was taken, or goes to a function with a smaller second summand.
abbrev pub decreases-arguments : goal.decreases-arguments
decreases-arguments l = 10 * length l.terminals.now

abbrev pub decreases-chain : goal.decreases-chain
decreases-chain l = 10 * length l.terminals.now + (rank l.level + 2)

abbrev pub decreases-closed : goal.decreases-closed
decreases-closed l = 10 * length l.terminals.now + 9

abbrev pub decreases-expression : goal.decreases-expression
decreases-expression l = 10 * length l.terminals.now + 8

abbrev pub decreases-links : goal.decreases-links
decreases-links l = 10 * length l.terminals.now + 1

abbrev pub decreases-listed : goal.decreases-listed
decreases-listed l = 10 * length l.terminals.now + 9

abbrev pub decreases-more_arguments : goal.decreases-more_arguments
decreases-more_arguments l = 10 * length l.terminals.now + 1

abbrev pub decreases-next_argument : goal.decreases-next_argument
decreases-next_argument l = 10 * length l.terminals.now

abbrev pub decreases-next_link : goal.decreases-next_link
decreases-next_link l = 10 * length l.terminals.now

abbrev pub decreases-prefix : goal.decreases-prefix
decreases-prefix l = 10 * length l.terminals.now + 1

abbrev pub decreases-primary : goal.decreases-primary
decreases-primary l = 10 * length l.terminals.now

abbrev pub decreases-place_step : goal.decreases-place_step
decreases-place_step l = 10 * length l.terminals.now

abbrev pub decreases-step : goal.decreases-step
decreases-step l = 10 * length l.terminals.now + 1

abbrev pub decreases-steps : goal.decreases-steps
decreases-steps l = 10 * length l.terminals.now + 2

abbrev pub invariant-links-loop-alloc : goal.invariant-links-loop-alloc
invariant-links-loop-alloc l = record {
  so_far :
      with_front (map joined_of l.links.items)
      (reading (many (comes (is_operator (operator_at l.level))) (link (operator_at l.level) (rule_at l.members))) l.rest)
      ≡ reading (many (comes (is_operator (operator_at l.level))) (link (operator_at l.level) (rule_at l.members))) l.terminals;
  shorter : length l.rest ≤ length l.terminals;
}

abbrev pub decreases-links-loop-alloc : goal.decreases-links-loop-alloc
decreases-links-loop-alloc l = length l.rest

abbrev pub invariant-more_arguments-loop-alloc : goal.invariant-more_arguments-loop-alloc
invariant-more_arguments-loop-alloc l = record {
  so_far :
      with_front (map expression_of l.args.items) (reading (many (comes (is_mark mark.Comma)) (a_mark mark.Comma ⊳ expression)) l.rest)
      ≡ with_front (map expression_of l.fn.front.items) (reading (many (comes (is_mark mark.Comma)) (a_mark mark.Comma ⊳ expression)) l.terminals);
  shorter : length l.rest ≤ length l.terminals;
}

abbrev pub decreases-more_arguments-loop-alloc : goal.decreases-more_arguments-loop-alloc
decreases-more_arguments-loop-alloc l = length l.rest

abbrev pub invariant-steps-loop-alloc : goal.invariant-steps-loop-alloc
invariant-steps-loop-alloc l = record {
  so_far :
      with_front (map stepped_of l.steps.items) (reading (many (comes begins_step) step) l.rest)
      ≡ reading (many (comes begins_step) step) l.terminals;
  shorter : length l.rest ≤ length l.terminals;
}

abbrev pub decreases-steps-loop-alloc : goal.decreases-steps-loop-alloc
decreases-steps-loop-alloc l = length l.rest
