use Rattle.std.proofs.lemmas.List.{append-nil}
use Rattle.std.proofs.Common.{◌≡◌, ◌∙◌, ◌++◌, append_assoc, rules, sym}
use Rattle.regent_tree.specs.Plain.{expression_of, steps_in}
use Rattle.regent_tree.specs.PlainProgram.{block_in, arms_in}
use Rattle.regent_tree.specs.Limits.{first_excess, parts_of_expression, parts_of_block, parts_of_steps, parts_of_arms}
use Rattle.regent_tree.proofs.Rows.{block_of_vec, arms_of_vec, otherwise_of_option}
use Rattle.regent_tree.specs.declared.statement.Arm.{out-Arm}
use Rattle.read_limits.proofs.Laws.{both, nodes_pass, item_found, item_passed}
use Rattle.read_limits.proofs.Lists.{statements_listed, arms_listed}
use Rattle.read_limits.proofs.statements.+statement.Goals as goal

pub in_arms-returns-in-Some : goal.in_arms-returns-in-Some
in_arms-returns-in-Some t c =
    item_found arms_listed c.args.arms.now c.loop-arm.arm-index c.arm-item.result _ _ (search rules) c.arm-item.is
    (sym c.in-Some.is ∙ c.in_arm.ensures) c.loop-arm.invariant

pub in_arms-loop-arm-preserved : goal.in_arms-loop-arm-preserved
in_arms-loop-arm-preserved t c =
    item_passed arms_listed c.args.arms.now c.loop-arm.arm-index c.arm-item.result _ (search rules) c.arm-item.is
    (sym c.in_default.is ∙ c.in_arm.ensures) c.loop-arm.invariant

pub in_statements-returns-in-Some : goal.in_statements-returns-in-Some
in_statements-returns-in-Some t c =
    item_found statements_listed c.args.body.now c.loop-statement.statement-index c.statement-item.result _ _
    (search rules) c.statement-item.is (sym c.in-Some.is ∙ c.in_form.ensures) c.loop-statement.invariant

pub in_statements-loop-statement-preserved : goal.in_statements-loop-statement-preserved
in_statements-loop-statement-preserved t c =
    item_passed statements_listed c.args.body.now c.loop-statement.statement-index c.statement-item.result _
    (search rules) c.statement-item.is (sym c.in_default.is ∙ c.in_form.ensures) c.loop-statement.invariant

pub in_form-returns-in-While : goal.in_form-returns-in-While
in_form-returns-in-While t c =
    rw (c.in-While.is, block_of_vec c.in-While.body, ← c.as_slice-in-While.ensures.value)
    (both (parts_of_expression (expression_of c.in-While.test)) (parts_of_block (block_in c.as_slice-in-While.result.now)) _ _ _ c.or-in-While.ensures c.in_expression.ensures c.in_statements-in-While.ensures)

pub in_form-returns-in-ForIn : goal.in_form-returns-in-ForIn
in_form-returns-in-ForIn t c =
    rw (c.in-ForIn.is, block_of_vec c.in-ForIn.body, ← c.as_slice-in-ForIn.ensures.value)
    (both (parts_of_expression (expression_of c.in-ForIn.domain)) (parts_of_block (block_in c.as_slice-in-ForIn.result.now)) _ _ _ c.or-in-ForIn.ensures c.in_expression-in-ForIn.ensures c.in_statements-in-ForIn.ensures)

pub in_form-returns-in-ForTo : goal.in_form-returns-in-ForTo
in_form-returns-in-ForTo t c =
    let first : c.or-in-ForTo.result ≡ first_excess (parts_of_expression (expression_of c.in-ForTo.from) ++ parts_of_expression (expression_of c.in-ForTo.to)) =
    both (parts_of_expression (expression_of c.in-ForTo.from)) (parts_of_expression (expression_of c.in-ForTo.to)) _ _ _ c.or-in-ForTo.ensures c.in_expression-in-ForTo.ensures c.in_expression-in-ForTo-2.ensures in
    rw (c.in-ForTo.is, block_of_vec c.in-ForTo.body, ← c.as_slice-in-ForTo.ensures.value, ← append_assoc)
    (both (parts_of_expression (expression_of c.in-ForTo.from) ++ parts_of_expression (expression_of c.in-ForTo.to)) (parts_of_block (block_in c.as_slice-in-ForTo.result.now)) _ _ _ c.or-in-ForTo-2.ensures first c.in_statements-in-ForTo.ensures)

pub in_form-returns-in-Do : goal.in_form-returns-in-Do
in_form-returns-in-Do t c =
    rw (c.in-Do.is, block_of_vec c.in-Do.body, ← c.as_slice-in-Do.ensures.value) c.in_statements-in-Do.ensures

pub in_form-returns-in-Fill : goal.in_form-returns-in-Fill
in_form-returns-in-Fill t c = rw (c.in-Fill.is, nodes_pass c.in-Fill.fields) c.in_expression-in-Fill.ensures

pub in_form-returns-in-Assign : goal.in_form-returns-in-Assign
in_form-returns-in-Assign t c =
    rw (c.in-Assign.is, ← c.as_slice-in-Assign.ensures.value)
    (both (parts_of_steps (steps_in c.as_slice-in-Assign.result.now)) (parts_of_expression (expression_of c.in-Assign.value)) _ _ _ c.or-in-Assign.ensures c.in_steps.ensures c.in_expression-in-Assign.ensures)

pub in_arm-returns : goal.in_arm-returns
in_arm-returns t c =
    rw (← c.as_slice.ensures.value)
    (both (parts_of_expression (expression_of (out-Arm c.args.arm.now).test)) (parts_of_block (block_in c.as_slice.result.now)) _ _ _ c.or.ensures c.in_expression.ensures
    c.in_statements.ensures)

pub in_form-returns-in-None : goal.in_form-returns-in-None
in_form-returns-in-None t c =
    rw (c.in-If.is, arms_of_vec c.in-If.arms, otherwise_of_option c.in-If.other, c.in-None.is, ← c.as_slice.ensures.value)
    (rw (append-nil (parts_of_arms (arms_in c.as_slice.result.now))) c.in_arms-excess.ensures)

pub in_form-returns-in-Some : goal.in_form-returns-in-Some
in_form-returns-in-Some t c =
    rw (c.in-If.is, arms_of_vec c.in-If.arms, otherwise_of_option c.in-If.other, c.in-Some.is, ← c.as_slice.ensures.value, ← c.as_slice-in-Some.ensures.value)
    (both (parts_of_arms (arms_in c.as_slice.result.now)) (parts_of_block (block_in c.as_slice-in-Some.result.now)) _ _ _ c.or-in-Some.ensures c.in_arms-excess.ensures
    c.in_statements.ensures)
