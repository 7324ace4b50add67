use Rattle.std.proofs.Common.{◌≡◌, ◌≤◌, ◌+◌, ◌*◌, length, map}
use Rattle.regent_grammar.specs.Reading.{reading}
use Rattle.regent_grammar.specs.Rules.{many, ◌⊳◌, ◌⊲◌}
use Rattle.regent_grammar.specs.Singles.{a_word}
use Rattle.regent_grammar.specs.Symbols.{comes, is_word}
use Rattle.regent_grammar.specs.Statements.{arm, begins_statement, statement, maybe_semicolon}
use Rattle.regent_lex.specs.declared.tables.Word.TheVariants as word
use Rattle.read_terms.specs.Gives.{with_front}
use Rattle.read_statements.specs.Blocks.{armed_of, statement_of}
use Rattle.read_statements.proofs.blocks.+block.Given as goal

-- Each call comes behind a terminal that was taken, or goes to a function with a smaller second summand.
abbrev pub decreases-arm : goal.decreases-arm
decreases-arm l = 10 * length l.terminals.now

abbrev pub decreases-block : goal.decreases-block
decreases-block l = 10 * length l.terminals.now + 7

abbrev pub decreases-body : goal.decreases-body
decreases-body l = 10 * length l.terminals.now

abbrev pub decreases-conditional : goal.decreases-conditional
decreases-conditional l = 10 * length l.terminals.now + 1

abbrev pub decreases-first_arm : goal.decreases-first_arm
decreases-first_arm l = 10 * length l.terminals.now

abbrev pub decreases-other_end : goal.decreases-other_end
decreases-other_end l = 10 * length l.terminals.now + 1

abbrev pub decreases-then_block : goal.decreases-then_block
decreases-then_block l = 10 * length l.terminals.now

abbrev pub decreases-demandable_loop : goal.decreases-demandable_loop
decreases-demandable_loop l = 10 * length l.terminals.now + 2

abbrev pub decreases-form : goal.decreases-form
decreases-form l = 10 * length l.terminals.now + 3

abbrev pub decreases-many_statements : goal.decreases-many_statements
decreases-many_statements l = 10 * length l.terminals.now + 5

abbrev pub decreases-more_arms : goal.decreases-more_arms
decreases-more_arms l = 10 * length l.terminals.now + 1

abbrev pub decreases-next_arm : goal.decreases-next_arm
decreases-next_arm l = 10 * length l.terminals.now

abbrev pub decreases-next_statement : goal.decreases-next_statement
decreases-next_statement l = 10 * length l.terminals.now + 4

abbrev pub decreases-other : goal.decreases-other
decreases-other l = 10 * length l.terminals.now

abbrev pub decreases-plain_block : goal.decreases-plain_block
decreases-plain_block l = 10 * length l.terminals.now + 1

abbrev pub decreases-while_loop : goal.decreases-while_loop
decreases-while_loop l = 10 * length l.terminals.now

abbrev pub decreases-whole_block : goal.decreases-whole_block
decreases-whole_block l = 10 * length l.terminals.now + 6

abbrev pub invariant-many_statements-loop-alloc : goal.invariant-many_statements-loop-alloc
invariant-many_statements-loop-alloc l = record {
  so_far :
      with_front (map statement_of l.statements.items) (reading (many (comes begins_statement) (statement ⊲ maybe_semicolon)) l.rest)
      ≡ reading (many (comes begins_statement) (statement ⊲ maybe_semicolon)) l.terminals;
  shorter : length l.rest ≤ length l.terminals;
}

abbrev pub decreases-many_statements-loop-alloc : goal.decreases-many_statements-loop-alloc
decreases-many_statements-loop-alloc l = length l.rest

abbrev pub invariant-more_arms-loop-alloc : goal.invariant-more_arms-loop-alloc
invariant-more_arms-loop-alloc l = record {
  so_far :
      with_front (map armed_of l.arms.items) (reading (many (comes (is_word word.Elseif)) (a_word word.Elseif ⊳ arm)) l.rest)
      ≡ reading (many (comes (is_word word.Elseif)) (a_word word.Elseif ⊳ arm)) l.terminals;
  shorter : length l.rest ≤ length l.terminals;
}

abbrev pub decreases-more_arms-loop-alloc : goal.decreases-more_arms-loop-alloc
decreases-more_arms-loop-alloc l = length l.rest
