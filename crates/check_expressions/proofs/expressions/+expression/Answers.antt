use Rattle.std.proofs.Common.{rules}
use Rattle.regent_tree.proofs.Rows.{links_of_vec, expressions_of_vec, steps_of_vec}
use Rattle.static_types.specs.Telling.{IsTold}
use Rattle.check_rules.specs.first.FirstInExpressions.{first_in_links, first_in_steps}
use Rattle.regent_tree.specs.Plain.{links_in, steps_in}
use Rattle.check_expressions.specs.Seen.{seen}
use Rattle.check_expressions.specs.Sites.{task_at, tree_at}
use Rattle.check_expressions.proofs.Members.{links_on, after_links_on, links_stop, steps_on, after_steps_on, steps_stop}
use Rattle.check_expressions.proofs.expressions.+expression.Goals as goal

pub expression-returns-in_ok-left-in-Chain : goal.expression-returns-in_ok-left-in-Chain
expression-returns-in_ok-left-in-Chain t c =
    rw (
      c.in-Chain.is,
      links_of_vec c.in-Chain.rest,
      ← c.deref.ensures,
      ← c.as_slice.ensures.value,
      c.in_ok-left-in-Chain.ensures.0,
      ← c.in_ok-left-in-Chain.ensures.1,
    )
    c.links.ensures

pub call-returns : goal.call-returns
call-returns t c =
    rw (c.in_ok-types.ensures.0, ← c.in_ok-types.ensures.1, ← c.deref.ensures.value)
    c.call_in_expression.ensures

pub expression-returns-in-Call : goal.expression-returns-in-Call
expression-returns-in-Call t c =
    rw (c.in-Call.is, expressions_of_vec c.in-Call.args, ← c.as_slice-in-Call.ensures.value)
    c.call.ensures

pub expression-returns-in-Access : goal.expression-returns-in-Access
expression-returns-in-Access t c =
    rw (c.in-Access.is, steps_of_vec c.in-Access.steps, ← c.as_slice-in-Access.ensures.value)
    c.access.ensures

pub links-loop-link-preserved : goal.links-loop-link-preserved
links-loop-link-preserved t c =
    let tree = tree_at c.args.site.now in
    let task = task_at c.args.site.now in
    let s = seen c.args.scope.now in
    let rest = c.args.rest.now in
    let i = c.loop-link.link-index in
    let l = c.link-item.result in
    record {
      told = links_on tree task s rest i l c.loop-link.left c.in_ok-left.left
          (first_in_links tree task s c.args.first (links_in rest)) c.loop-link-test.true
          c.link-item.is c.in_ok-left.ensures.0 c.in_ok-left.ensures.1 c.loop-link.invariant.told;
      known = after_links_on tree task s rest i l c.loop-link.left c.in_ok-left.left _
          c.loop-link-test.true c.link-item.is c.in_ok-left.ensures.1 c.loop-link.invariant.known;
    }

pub links-returns-in_err-left : goal.links-returns-in_err-left
links-returns-in_err-left t c =
    let tree = tree_at c.args.site.now in
    let task = task_at c.args.site.now in
    let s = seen c.args.scope.now in
    let rest = c.args.rest.now in
    let stop = c.in_err-left.field-0.0 in
    let all = first_in_links tree task s c.args.first (links_in rest) in
    let told : IsTold stop all = links_stop tree task s rest c.loop-link.link-index c.link-item.result
    c.loop-link.left stop all c.loop-link-test.true c.link-item.is c.in_err-left.ensures
    c.loop-link.invariant.told in
    search (rules, told)

pub walk-loop-step-preserved : goal.walk-loop-step-preserved
walk-loop-step-preserved t c =
    let tree = tree_at c.args.site.now in
    let task = task_at c.args.site.now in
    let s = seen c.args.scope.now in
    let steps = c.args.steps.now in
    let i = c.loop-step.step-index in
    let x = c.step-item.result in
    record {
      told = steps_on tree task s steps i x c.loop-step.t c.in_ok-t.t
          (first_in_steps tree task s c.args.head (steps_in steps)) c.loop-step-test.true
          c.step-item.is c.in_ok-t.ensures.0 c.in_ok-t.ensures.1 c.loop-step.invariant.told;
      known = after_steps_on tree task s steps i x c.loop-step.t c.in_ok-t.t _
          c.loop-step-test.true c.step-item.is c.in_ok-t.ensures.1 c.loop-step.invariant.known;
    }

pub walk-returns-in_err-t : goal.walk-returns-in_err-t
walk-returns-in_err-t t c =
    let tree = tree_at c.args.site.now in
    let task = task_at c.args.site.now in
    let s = seen c.args.scope.now in
    let steps = c.args.steps.now in
    let stop = c.in_err-t.field-0.0 in
    let all = first_in_steps tree task s c.args.head (steps_in steps) in
    let told : IsTold stop all = steps_stop tree task s steps c.loop-step.step-index c.step-item.result
    c.loop-step.t stop all c.loop-step-test.true c.step-item.is c.in_err-t.ensures
    c.loop-step.invariant.told in
    search (rules, told)
