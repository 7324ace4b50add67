use Rattle.std.proofs.Common.{◌∙◌, refl, sym, ap, arith}
use Rattle.std.proofs.lemmas.Result.{err_from_is_err_and}
use Rattle.std.proofs.lemmas.List.{map_push}
use Rattle.regent_grammar.specs.Guards.{takes, is_sound}
use Rattle.regent_grammar.specs.Reading.{read}
use Rattle.regent_grammar.specs.Rules.{◌⊳◌}
use Rattle.regent_grammar.specs.Singles.{a_mark}
use Rattle.regent_grammar.specs.Symbols.{comes, is_mark}
use Rattle.regent_grammar.specs.Expressions.{expression, is_operator, link, begins_step, step, steps}
use Rattle.regent_lex.specs.declared.tables.Mark.TheVariants as mark
use Rattle.regent_grammar.proofs.Facts.{all_rules}
use Rattle.read_terms.specs.Levels.{operator_at, rule_at}
use Rattle.read_terms.specs.declared.operators.Level.{Level}
use Rattle.read_terms.proofs.Lengths.{link_sound, link_takes}
use Rattle.read_terms.proofs.Loops.{Repeats, repeats, front_none, goes_on, ends, stops}
use Rattle.read_terms.proofs.Wrapping.{wrapped_read}
use Rattle.read_terms.proofs.expressions.+expression.Goals as goal

links_again : (l m : Level) → Repeats (comes (is_operator (operator_at l))) (link (operator_at l) (rule_at m))
links_again l m = repeats (comes (is_operator (operator_at l))) (link (operator_at l) (rule_at m)) (link_sound l m) (link_takes l m)

arguments_again : Repeats (comes (is_mark mark.Comma)) (a_mark mark.Comma ⊳ expression)
unfolding all_rules is_sound takes
arguments_again = repeats (comes (is_mark mark.Comma)) (a_mark mark.Comma ⊳ expression) refl refl

steps_again : Repeats (comes begins_step) step
unfolding all_rules is_sound takes
steps_again = repeats (comes begins_step) step refl refl

pub links-loop-alloc-init : goal.links-loop-alloc-init
links-loop-alloc-init t c = record { so_far = rw c.new-links.ensures.items (front_none _); shorter = omega arith }

pub links-loop-alloc-preserved : goal.links-loop-alloc-preserved
links-loop-alloc-preserved t c =
    let less = (links_again c.args.level c.args.members).shorter _ _ _ c.in_ok-link.ensures in
    record {
      so_far = rw (c.in_ok-push.ensures.items, map_push)
          (goes_on (links_again c.args.level c.args.members) _ _ _ _ _ (sym c.comes_operator.ensures ∙ c.loop-alloc-test.true)
          c.in_ok-link.ensures c.loop-alloc.invariant.so_far);
      shorter = omega (arith, less);
    }

pub links-loop-alloc-smaller : goal.links-loop-alloc-smaller
links-loop-alloc-smaller t c = (links_again c.args.level c.args.members).shorter _ _ _ c.in_ok-link.ensures

pub links-returns : goal.links-returns
links-returns t c =
    ends (links_again c.args.level c.args.members) _ _ _ (sym c.comes_operator.ensures ∙ c.loop-alloc-test.false) c.loop-alloc.invariant.so_far

pub links-returns-in_err-link : goal.links-returns-in_err-link
links-returns-in_err-link t c =
    let p = err_from_is_err_and c.from_residual.result c.from_residual.ensures.1 in
    rw (p.1, p.2)
    (stops (links_again c.args.level c.args.members) _ _ _ _ (sym c.comes_operator.ensures ∙ c.loop-alloc-test.true)
    c.loop-alloc.invariant.so_far c.in_err-link.ensures)

pub more_arguments-loop-alloc-preserved : goal.more_arguments-loop-alloc-preserved
more_arguments-loop-alloc-preserved t c =
    let less = arguments_again.shorter _ _ _ c.in_ok-arg.ensures in
    record {
      so_far = rw (c.in_ok-push.ensures.items, map_push)
          (goes_on arguments_again _ _ _ _ _ (sym c.comes_mark.ensures ∙ c.loop-alloc-test.true)
          c.in_ok-arg.ensures c.loop-alloc.invariant.so_far);
      shorter = omega (arith, less);
    }

pub more_arguments-loop-alloc-smaller : goal.more_arguments-loop-alloc-smaller
more_arguments-loop-alloc-smaller t c = arguments_again.shorter _ _ _ c.in_ok-arg.ensures

pub more_arguments-returns : goal.more_arguments-returns
more_arguments-returns t c =
    ends arguments_again _ _ _ (sym c.comes_mark.ensures ∙ c.loop-alloc-test.false) c.loop-alloc.invariant.so_far

pub more_arguments-returns-in_err-arg : goal.more_arguments-returns-in_err-arg
more_arguments-returns-in_err-arg t c =
    let p = err_from_is_err_and c.from_residual.result c.from_residual.ensures.1 in
    rw (p.1, p.2)
    (stops arguments_again _ _ _ _ (sym c.comes_mark.ensures ∙ c.loop-alloc-test.true) c.loop-alloc.invariant.so_far
    c.in_err-arg.ensures)

pub steps-loop-alloc-init : goal.steps-loop-alloc-init
steps-loop-alloc-init t c = record { so_far = rw c.new-steps.ensures.items (front_none _); shorter = omega arith }

pub steps-loop-alloc-preserved : goal.steps-loop-alloc-preserved
steps-loop-alloc-preserved t c =
    let less = steps_again.shorter _ _ _ c.in_ok-step.ensures in
    record {
      so_far = rw (c.in_ok-push.ensures.items, map_push)
          (goes_on steps_again _ _ _ _ _ (sym c.comes_step.ensures ∙ c.loop-alloc-test.true)
          c.in_ok-step.ensures c.loop-alloc.invariant.so_far);
      shorter = omega (arith, less);
    }

pub steps-loop-alloc-smaller : goal.steps-loop-alloc-smaller
steps-loop-alloc-smaller t c = steps_again.shorter _ _ _ c.in_ok-step.ensures

pub steps-returns : goal.steps-returns
unfolding steps
steps-returns t c =
    ends steps_again _ _ _ (sym c.comes_step.ensures ∙ c.loop-alloc-test.false) c.loop-alloc.invariant.so_far

pub steps-returns-in_err-step : goal.steps-returns-in_err-step
unfolding steps
steps-returns-in_err-step t c =
    let p = err_from_is_err_and c.from_residual.result c.from_residual.ensures.1 in
    rw (p.1, p.2)
    (stops steps_again _ _ _ _ (sym c.comes_step.ensures ∙ c.loop-alloc-test.true) c.loop-alloc.invariant.so_far
    c.in_err-step.ensures)

pub primary-returns-in_ok-wrapped-in-Wrapped : goal.primary-returns-in_ok-wrapped-in-Wrapped
primary-returns-in_ok-wrapped-in-Wrapped t c =
    rw (c.in-Wrapped.is) at c.in_ok-head.ensures.same
    ∙ wrapped_read c.in-Wrapped.wrap _ _ _ c.in_ok-inner-in-Wrapped.ensures
    ∙ ap (λ e. read e c.in_ok-inner-in-Wrapped.rest.now) (sym c.in_ok-wrapped-in-Wrapped.ensures)
