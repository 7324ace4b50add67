use Rattle.std.proofs.Common.{◌∙◌, rules, sym}
use Rattle.regent_tree.specs.Plain.{expression_of, links_in}
use Rattle.regent_tree.specs.Limits.{parts_of_expression, parts_of_links}
use Rattle.regent_tree.proofs.Rows.{links_of_vec, expressions_of_vec, steps_of_vec}
use Rattle.read_limits.proofs.Laws.{in_first, in_rest, nodes_pass, item_found, item_passed}
use Rattle.read_limits.proofs.Lists.{links_listed, expressions_listed, steps_listed}
use Rattle.read_limits.proofs.expressions.+expression.Goals as goal

pub in_links-returns-in-Some : goal.in_links-returns-in-Some
in_links-returns-in-Some t c =
    item_found links_listed c.args.links.now c.loop-link.link-index c.link-item.result _ _ (search rules) c.link-item.is
    (sym c.in-Some.is ∙ c.in_expression.ensures) c.loop-link.invariant

pub in_links-loop-link-preserved : goal.in_links-loop-link-preserved
in_links-loop-link-preserved t c =
    item_passed links_listed c.args.links.now c.loop-link.link-index c.link-item.result _ (search rules) c.link-item.is
    (sym c.in_default.is ∙ c.in_expression.ensures) c.loop-link.invariant

pub in_expressions-returns-in-Some : goal.in_expressions-returns-in-Some
in_expressions-returns-in-Some t c =
    item_found expressions_listed c.args.args.now c.loop-arg.arg-index c.arg-item.result _ _ (search rules) c.arg-item.is
    (sym c.in-Some.is ∙ c.in_expression.ensures) c.loop-arg.invariant

pub in_expressions-loop-arg-preserved : goal.in_expressions-loop-arg-preserved
in_expressions-loop-arg-preserved t c =
    item_passed expressions_listed c.args.args.now c.loop-arg.arg-index c.arg-item.result _ (search rules) c.arg-item.is
    (sym c.in_default.is ∙ c.in_expression.ensures) c.loop-arg.invariant

pub in_steps-returns-in-Some : goal.in_steps-returns-in-Some
in_steps-returns-in-Some t c =
    item_found steps_listed c.args.steps.now c.loop-step.step-index c.step-item.result _ _ (search rules) c.step-item.is
    (sym c.in-Some.is ∙ c.in_step.ensures) c.loop-step.invariant

pub in_steps-loop-step-preserved : goal.in_steps-loop-step-preserved
in_steps-loop-step-preserved t c =
    item_passed steps_listed c.args.steps.now c.loop-step.step-index c.step-item.result _ (search rules) c.step-item.is
    (sym c.in_default.is ∙ c.in_step.ensures) c.loop-step.invariant

pub in_expression-returns-in-Some : goal.in_expression-returns-in-Some
in_expression-returns-in-Some t c =
    rw (c.in-Chain.is, ← c.deref.ensures)
    (in_first (parts_of_expression (expression_of c.deref.result.now)) _ _ (sym c.in-Some.is ∙ c.in_expression.ensures))

pub in_expression-returns-in_default : goal.in_expression-returns-in_default
in_expression-returns-in_default t c =
    rw (c.in-Chain.is, links_of_vec c.in-Chain.rest, ← c.deref.ensures, ← c.as_slice.ensures.value)
    (in_rest (parts_of_expression (expression_of c.deref.result.now)) (parts_of_links (links_in c.as_slice.result.now)) _
    (sym c.in_default.is ∙ c.in_expression.ensures) c.in_links.ensures)

pub in_expression-returns-in-Prefix : goal.in_expression-returns-in-Prefix
in_expression-returns-in-Prefix t c =
    rw (c.in-Prefix.is, nodes_pass c.in-Prefix.signs, ← c.deref-in-Prefix.ensures) c.in_expression-in-Prefix.ensures

pub in_expression-returns-in-Call : goal.in_expression-returns-in-Call
in_expression-returns-in-Call t c =
    rw (c.in-Call.is, expressions_of_vec c.in-Call.args, ← c.as_slice-in-Call.ensures.value) c.in_expressions.ensures

pub in_expression-returns-in-Access : goal.in_expression-returns-in-Access
in_expression-returns-in-Access t c =
    rw (c.in-Access.is, steps_of_vec c.in-Access.steps, ← c.as_slice-in-Access.ensures.value) c.in_steps.ensures
