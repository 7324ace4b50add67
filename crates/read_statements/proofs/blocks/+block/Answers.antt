use Rattle.std.proofs.Common.{◌∙◌, refl, sym, arith}
use Rattle.std.proofs.lemmas.Result.{err_from_is_err_and}
use Rattle.std.proofs.lemmas.List.{map_push}
use Rattle.regent_grammar.specs.Guards.{takes, is_sound}
use Rattle.regent_grammar.specs.Rules.{◌⊳◌, ◌⊲◌}
use Rattle.regent_grammar.specs.Singles.{a_word}
use Rattle.regent_grammar.specs.Symbols.{comes, is_word}
use Rattle.regent_grammar.specs.Statements.{arm, begins_statement, statement, maybe_semicolon}
use Rattle.regent_lex.specs.declared.tables.Word.TheVariants as word
use Rattle.regent_grammar.proofs.Facts.{all_rules}
use Rattle.read_terms.proofs.Loops.{Repeats, repeats, front_none, goes_on, ends, stops}
use Rattle.read_statements.proofs.blocks.+block.Goals as goal

statements_again : Repeats (comes begins_statement) (statement ⊲ maybe_semicolon)
unfolding all_rules is_sound takes
statements_again = repeats (comes begins_statement) (statement ⊲ maybe_semicolon) refl refl

arms_again : Repeats (comes (is_word word.Elseif)) (a_word word.Elseif ⊳ arm)
unfolding all_rules is_sound takes
arms_again = repeats (comes (is_word word.Elseif)) (a_word word.Elseif ⊳ arm) refl refl

pub many_statements-loop-alloc-init : goal.many_statements-loop-alloc-init
many_statements-loop-alloc-init t c = record { so_far = rw c.new-statements.ensures.items (front_none _); shorter = omega arith }

pub many_statements-loop-alloc-preserved : goal.many_statements-loop-alloc-preserved
many_statements-loop-alloc-preserved t c =
    let less = statements_again.shorter _ _ _ c.in_ok-statement.ensures in
    record {
      so_far = rw (c.in_ok-push.ensures.items, map_push)
          (goes_on statements_again _ _ _ _ _ (sym c.comes_statement.ensures ∙ c.loop-alloc-test.true)
          c.in_ok-statement.ensures c.loop-alloc.invariant.so_far);
      shorter = omega (arith, less);
    }

pub many_statements-loop-alloc-smaller : goal.many_statements-loop-alloc-smaller
many_statements-loop-alloc-smaller t c = statements_again.shorter _ _ _ c.in_ok-statement.ensures

pub many_statements-returns : goal.many_statements-returns
many_statements-returns t c =
    ends statements_again _ _ _ (sym c.comes_statement.ensures ∙ c.loop-alloc-test.false) c.loop-alloc.invariant.so_far

pub many_statements-returns-in_err-statement : goal.many_statements-returns-in_err-statement
many_statements-returns-in_err-statement t c =
    let p = err_from_is_err_and c.from_residual.result c.from_residual.ensures.1 in
    rw (p.1, p.2)
    (stops statements_again _ _ _ _ (sym c.comes_statement.ensures ∙ c.loop-alloc-test.true) c.loop-alloc.invariant.so_far
    c.in_err-statement.ensures)

pub more_arms-loop-alloc-init : goal.more_arms-loop-alloc-init
more_arms-loop-alloc-init t c = record { so_far = rw c.new-arms.ensures.items (front_none _); shorter = omega arith }

pub more_arms-loop-alloc-preserved : goal.more_arms-loop-alloc-preserved
more_arms-loop-alloc-preserved t c =
    let less = arms_again.shorter _ _ _ c.in_ok-arm.ensures in
    record {
      so_far = rw (c.in_ok-push.ensures.items, map_push)
          (goes_on arms_again _ _ _ _ _ (sym c.comes_word.ensures ∙ c.loop-alloc-test.true)
          c.in_ok-arm.ensures c.loop-alloc.invariant.so_far);
      shorter = omega (arith, less);
    }

pub more_arms-loop-alloc-smaller : goal.more_arms-loop-alloc-smaller
more_arms-loop-alloc-smaller t c = arms_again.shorter _ _ _ c.in_ok-arm.ensures

pub more_arms-returns : goal.more_arms-returns
more_arms-returns t c =
    ends arms_again _ _ _ (sym c.comes_word.ensures ∙ c.loop-alloc-test.false) c.loop-alloc.invariant.so_far

pub more_arms-returns-in_err-arm : goal.more_arms-returns-in_err-arm
more_arms-returns-in_err-arm t c =
    let p = err_from_is_err_and c.from_residual.result c.from_residual.ensures.1 in
    rw (p.1, p.2)
    (stops arms_again _ _ _ _ (sym c.comes_word.ensures ∙ c.loop-alloc-test.true) c.loop-alloc.invariant.so_far
    c.in_err-arm.ensures)
