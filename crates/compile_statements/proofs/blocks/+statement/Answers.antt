use Rattle.std.proofs.Common.{◌≡◌, ℕ, Bool, List, None, OnOk, Option, Some, [], ap, cond, drop, length, refl, rules, subst, ◌++◌, ◌∷◌, sym, true, ◌∙◌}
use Rattle.std.specs.Prelude.{◌&&◌, IfNone, IfSome}
use Rattle.regent_tree.specs.Plain.{expression_of}
use Rattle.regent_tree.specs.PlainProgram.{arms_in, block_in, form_of, otherwise_in}
use Rattle.regent_tree.specs.Scopes.{Scope, past, with_name}
use Rattle.regent_tree.specs.Syntax.{Otherwise, for_in_form, if_form, while_form}
use Rattle.regent_tree.specs.Typing.{is_pointer, scope_after, scope_after_arms, scope_after_block, scope_after_else, taken_from, type_of}
use Rattle.regent_tree.specs.declared.typing.StaticType.{StaticType}
use Rattle.regent_tree.proofs.Rows.{arms_of_vec, block_of_vec, otherwise_of_option}
use Rattle.task_code.specs.declared.code.Line.{Line}
use Rattle.task_code.specs.declared.instr.Instr.TheVariants as instr
use Rattle.code_rules.specs.Emitted.{added, emitted, opened, put_in, tested}
use Rattle.code_rules.specs.Expressions.{expr_code}
use Rattle.code_rules.specs.Initializers.{new_place}
use Rattle.code_rules.specs.Launches.{LaunchedCall, launch_code, one_call}
use Rattle.code_rules.specs.Pieces.{rounds, ◌⨟◌}
use Rattle.code_rules.specs.Slots.{beside, typed}
use Rattle.code_rules.specs.Statements.{in_one_step, looping, on_line, points_code}
use Rattle.check_rules.specs.declared.loop_shape.LoopShape.{LoopShape}
use Rattle.compile_types.specs.Here.{where_at}
use Rattle.compile_statements.specs.Branches.{behind_block, else_in, joined, parted_by}
use Rattle.compile_statements.specs.Loops.{counter_code, domain_code, head_instr, point_head}
use Rattle.compile_statements.specs.Scopes.{as_of, mark_of, seen, tree_at, where_in}
use Rattle.compile_statements.specs.Shaped.{arms_by, block_by, call_of, else_by, first_is_launch, form_by, given_call, shapes_after_arms, shapes_after_block, shapes_after_else, shapes_after_form}
use Rattle.compile_statements.specs.declared.launches.Launched.{Launched}
use Rattle.compile_statements.specs.declared.loops.Head.{Head}
use Rattle.compile_statements.specs.declared.scope.Mark.{Mark}
use Rattle.compile_statements.proofs.Arms.{after_arms_on, arm_shapes_on, arms_on, body_in, on_ok, test_in}
use Rattle.compile_statements.proofs.Calls.{launched_scope, launched_shapes}
use Rattle.compile_statements.proofs.Following.{after_on, code_on, shapes_on}
use Rattle.compile_statements.proofs.Grows.{IsPast, again, again_behind, block_left, block_names, loop_names, past_block}
use Rattle.compile_statements.proofs.blocks.+statement.Goals as goal

pub block-loop-stmt-preserved : goal.block-loop-stmt-preserved
block-loop-stmt-preserved t c =
    let at = c.args.at.now in
    let stmts = c.args.stmts.now in
    let i = c.loop-stmt.stmt-index in
    let x = c.stmt-item.result in
    let s = seen c.loop-stmt.scope in
    let u = seen c.form.new.scope in
    let ls = c.loop-stmt.shapes in
    let us = c.form.new.shapes in
    record {
      scope = after_on (tree_at at) stmts i x s u (scope_after_block (tree_at at) (seen c.args.scope.now) (block_in stmts))
          c.loop-stmt-test.true c.stmt-item.is c.in_ok-form.ensures.scope c.loop-stmt.invariant.scope;
      shapes = shapes_on stmts i x ls us (shapes_after_block c.args.shapes.now (block_in stmts))
          c.loop-stmt-test.true c.stmt-item.is c.in_ok-form.ensures.shapes c.loop-stmt.invariant.shapes;
      code = code_on at.site.now at.line stmts i x s u ls us c.loop-stmt.body c.form.new.body
          (emitted c.args.body.now (block_by c.args.shapes.now (where_in at c.args.scope.now) (block_in stmts)))
          c.loop-stmt-test.true c.stmt-item.is c.in_ok-form.ensures.scope c.in_ok-form.ensures.shapes c.in_ok-form.ensures.code
          c.loop-stmt.invariant.code;
    }

pub nested-returns-clause-scope : goal.nested-returns-clause-scope
nested-returns-clause-scope t c =
    let tree = tree_at c.args.at.now in
    let s = seen c.args.scope.now in
    let stmts = block_in c.args.stmts.now in
    block_left s (scope_after_block tree s stmts) c.block.new.scope c.leave.new.self c.in_ok-block.ensures.scope
    (block_names tree s stmts) (rw c.mark-mark.ensures at c.leave.ensures)

pub loop_body-returns-clause-scope : goal.loop_body-returns-clause-scope
loop_body-returns-clause-scope t c =
    let tree = tree_at c.args.at.now in
    let s = seen c.args.scope.now in
    let n = c.args.name.now in
    let stmts = block_in c.args.stmts.now in
    let inner : seen c.bind.new.self ≡ with_name s n c.args.taken true =
    c.in_ok-bind.ensures ∙ ap (λ m. with_name s m c.args.taken true) c.in_ok-copy_name.ensures in
    block_left s (scope_after_block tree (with_name s n c.args.taken true) stmts) c.block.new.scope c.leave.new.self
    (c.in_ok-block.ensures.scope ∙ ap (λ u. scope_after_block tree u stmts) inner)
    (loop_names tree s n c.args.taken stmts) (rw c.mark-mark.ensures at c.leave.ensures)

pub all_arms-loop-each-preserved : goal.all_arms-loop-each-preserved
all_arms-loop-each-preserved t c =
    let at = c.args.at.now in
    let arms = c.args.arms.now in
    let i = c.loop-each.each-index in
    let a = c.each-item.result in
    let own = seen c.args.scope.now in
    let s = seen c.loop-each.scope in
    let u = seen c.arm.new.scope in
    let ls = c.loop-each.shapes in
    let us = c.arm.new.shapes in
    let inner = block_by ls (where_at at.site.now s at.line) (body_in a) in
    let before = c.loop-each.invariant in
    let same : as_of c.mark-mark.result s ≡ own = ap (λ (m : Mark). as_of m s) c.mark-mark.ensures ∙ again own s before.past in
    let scope : u ≡ _ = rw c.as_slice.ensures.value at c.in_ok-skip.ensures.scope in
    let shapes : us ≡ shapes_after_block ls (body_in a) = rw c.as_slice.ensures.value at c.in_ok-skip.ensures.shapes in
    let place : c.in_ok-skip.skip ≡ length (behind_block (where_at at.site.now own at.line) (where_at at.site.now s at.line) (test_in a) inner c.loop-each.body) =
    subst (λ o. c.in_ok-skip.skip ≡ length (behind_block (where_at at.site.now o at.line) (where_at at.site.now s at.line) (test_in a) inner c.loop-each.body))
    same (rw c.as_slice.ensures.value at c.in_ok-skip.ensures.place) in
    let code : c.arm.new.body ≡ parted_by (where_at at.site.now own at.line) (where_at at.site.now s at.line) (test_in a) inner c.loop-each.body =
    subst (λ o. c.arm.new.body ≡ parted_by (where_at at.site.now o at.line) (where_at at.site.now s at.line) (test_in a) inner c.loop-each.body)
    same (rw c.as_slice.ensures.value at c.in_ok-skip.ensures.code) in
    let pushed : c.push.new.self.items ≡ c.loop-each.skips.items ++ c.in_ok-skip.skip ∷ [] = search rules in
    record {
      mark = c.mark-mark.ensures;
      past = subst (λ (v : Scope). IsPast own v) (sym scope) (past_block (tree_at at) own s (body_in a) before.past);
      scope = after_arms_on (tree_at at) arms i a s u (scope_after_arms (tree_at at) own (arms_in arms))
          c.loop-each-test.true c.each-item.is scope before.scope;
      shapes = arm_shapes_on arms i a ls us (shapes_after_arms c.args.shapes.now (arms_in arms))
          c.loop-each-test.true c.each-item.is shapes before.shapes;
      code = λ other. rw pushed (arms_on at.site.now at.line own arms i a s u ls us c.loop-each.skips.items c.in_ok-skip.skip c.loop-each.body c.arm.new.body
          (emitted c.args.body.now (arms_by c.args.shapes.now (where_in at c.args.scope.now) (where_in at c.args.scope.now) (arms_in arms) other)) other
          c.loop-each-test.true c.each-item.is scope shapes place code (before.code other));
    }

-- ---- a statement, by its form

pub form-returns-in_ok-otherwise-in-If-clause-scope : goal.form-returns-in_ok-otherwise-in-If-clause-scope
form-returns-in_ok-otherwise-in-If-clause-scope t c =
    let tree = tree_at c.args.at.now in
    let own = seen c.args.scope.now in
    let arms = arms_in c.as_slice.result.now in
    let other = otherwise_in c.in-If.other in
    let same : else_in (form_of c.args.what.now) ≡ other = rw (c.in-If.is, otherwise_of_option c.in-If.other) refl in
    let behind : seen c.otherwise.new.scope ≡ scope_after tree own (if_form arms other) =
    c.in_ok-otherwise-in-If.ensures.scope ∙ ap (λ (o : Otherwise). scope_after_else tree (seen c.all_arms.new.scope) o) same
    ∙ ap (λ (u : Scope). scope_after_else tree u other) c.in_ok-skips-in-If.ensures.scope in
    rw (c.in-If.is, arms_of_vec c.in-If.arms, otherwise_of_option c.in-If.other, ← c.as_slice.ensures.value)
    (on_ok c.join.result (seen c.otherwise.new.scope ≡ scope_after tree own (if_form arms other)) behind)

pub form-returns-in_ok-otherwise-in-If-clause-shapes : goal.form-returns-in_ok-otherwise-in-If-clause-shapes
form-returns-in_ok-otherwise-in-If-clause-shapes t c =
    let ls = c.args.shapes.now in
    let arms = arms_in c.as_slice.result.now in
    let other = otherwise_in c.in-If.other in
    let same : else_in (form_of c.args.what.now) ≡ other = rw (c.in-If.is, otherwise_of_option c.in-If.other) refl in
    let behind : c.otherwise.new.shapes ≡ shapes_after_form ls (if_form arms other) =
    c.in_ok-otherwise-in-If.ensures.shapes ∙ ap (λ (o : Otherwise). shapes_after_else c.all_arms.new.shapes o) same
    ∙ ap (λ (us : List LoopShape). shapes_after_else us other) c.in_ok-skips-in-If.ensures.shapes in
    rw (c.in-If.is, arms_of_vec c.in-If.arms, otherwise_of_option c.in-If.other, ← c.as_slice.ensures.value)
    (on_ok c.join.result (c.otherwise.new.shapes ≡ shapes_after_form ls (if_form arms other)) behind)

pub form-returns-in_ok-otherwise-in-If-clause-code : goal.form-returns-in_ok-otherwise-in-If-clause-code
form-returns-in_ok-otherwise-in-If-clause-code t c =
    let at = c.args.at.now in
    let line = at.line in
    let ls = c.args.shapes.now in
    let own = seen c.args.scope.now in
    let arms = arms_in c.as_slice.result.now in
    let other = otherwise_in c.in-If.other in
    let behind = where_at at.site.now (scope_after_arms (tree_at at) own arms) line in
    let same : else_in (form_of c.args.what.now) ≡ other = rw (c.in-If.is, otherwise_of_option c.in-If.other) refl in
    let whole : joined line c.deref.result.now c.otherwise.new.body
    ≡ emitted c.args.body.now (form_by ls (where_in at c.args.scope.now) (if_form arms other)) =
    ap (λ (ps : List ℕ). joined line ps c.otherwise.new.body) c.deref.ensures.value
    ∙ ap (joined line c.in_ok-skips-in-If.skips.items) (c.in_ok-otherwise-in-If.ensures.code
    ∙ ap (λ (o : Otherwise). emitted c.all_arms.new.body (else_by c.all_arms.new.shapes (where_in at c.all_arms.new.scope) o)) same
    ∙ ap (λ (u : Scope). emitted c.all_arms.new.body (else_by c.all_arms.new.shapes (where_at at.site.now u line) other)) c.in_ok-skips-in-If.ensures.scope
    ∙ ap (λ (us : List LoopShape). emitted c.all_arms.new.body (else_by us behind other)) c.in_ok-skips-in-If.ensures.shapes)
    ∙ sym (c.in_ok-skips-in-If.ensures.code (else_by (shapes_after_arms ls arms) behind other)) in
    rw (c.in-If.is, arms_of_vec c.in-If.arms, otherwise_of_option c.in-If.other, ← c.as_slice.ensures.value)
    (subst (λ (b : List Line). OnOk c.join.result (c.join.new.body ≡ b)) whole c.join.ensures)

pub repeat-returns-clause-code : goal.repeat-returns-clause-code
repeat-returns-clause-code t c =
    let at = c.args.at.now in
    let line = at.line in
    let own = seen c.args.scope.now in
    let w = where_in at c.args.scope.now in
    let ls = c.args.shapes.now in
    let stmts = block_in c.args.stmts.now in
    let test = expression_of c.args.test.now in
    let b0 = c.args.body.now in
    let head = c.in_ok-head.head in
    let inner = c.nested.new.body in
    let same : as_of c.mark-mark.result (seen c.nested.new.scope) ≡ own =
    ap (λ (m : Mark). as_of m (seen c.nested.new.scope)) c.mark-mark.ensures
    ∙ ap (λ (u : Scope). as_of (mark_of own) u) c.in_ok-nested.ensures.scope
    ∙ again_behind (tree_at at) own stmts in
    let turn : inner ≡ emitted (added (opened b0 line) instr.Turn line) (block_by ls w stmts) =
    c.in_ok-nested.ensures.code ∙ ap (λ (b : List Line). emitted b (block_by ls w stmts)) c.in_ok-head.ensures.body in
    let put : c.put.new.self ≡ put_in inner head (instr.Jump (length inner)) line = search rules in
    let whole : tested line head c.expression_as_of.new.body ≡ emitted b0 (form_by ls w (while_form test stmts)) =
    ap (tested line head) (c.in_ok-expression_as_of.ensures
    ∙ ap (λ (o : Scope). emitted c.put.new.self (expr_code (where_at at.site.now o line) 0 test)) same
    ∙ ap (λ (b : List Line). emitted b (expr_code w 0 test)) put)
    ∙ ap (λ (h : ℕ). tested line h (emitted (put_in inner h (instr.Jump (length inner)) line) (expr_code w 0 test))) c.in_ok-head.ensures.place
    ∙ ap (λ (b : List Line). tested line (length b0) (emitted (put_in b (length b0) (instr.Jump (length b)) line) (expr_code w 0 test))) turn in
    subst (λ (b : List Line). OnOk c.again.result (c.again.new.body ≡ b)) whole c.again.ensures

pub form-returns-in-While-clause-scope : goal.form-returns-in-While-clause-scope
form-returns-in-While-clause-scope t c =
    rw (c.in-While.is, block_of_vec c.in-While.inner, ← c.as_slice-in-While.ensures.value) c.repeat.ensures.scope

pub form-returns-in-While-clause-shapes : goal.form-returns-in-While-clause-shapes
form-returns-in-While-clause-shapes t c =
    rw (c.in-While.is, block_of_vec c.in-While.inner, ← c.as_slice-in-While.ensures.value) c.repeat.ensures.shapes

pub form-returns-in-While-clause-code : goal.form-returns-in-While-clause-code
form-returns-in-While-clause-code t c =
    rw (c.in-While.is, block_of_vec c.in-While.inner, ← c.as_slice-in-While.ensures.value) c.repeat.ensures.code

pub form-returns-in-ForIn-clause-scope : goal.form-returns-in-ForIn-clause-scope
form-returns-in-ForIn-clause-scope t c =
    rw (c.in-ForIn.is, block_of_vec c.in-ForIn.inner, ← c.as_slice-in-ForIn.ensures.value)
    (c.for_in.ensures.scope c.in-ForIn.demanded)

pub form-returns-in-ForIn-clause-shapes : goal.form-returns-in-ForIn-clause-shapes
form-returns-in-ForIn-clause-shapes t c =
    rw (c.in-ForIn.is, block_of_vec c.in-ForIn.inner, ← c.as_slice-in-ForIn.ensures.value) c.for_in.ensures.shapes

pub form-returns-in-ForIn-clause-code : goal.form-returns-in-ForIn-clause-code
form-returns-in-ForIn-clause-code t c =
    rw (c.in-ForIn.is, block_of_vec c.in-ForIn.inner, ← c.as_slice-in-ForIn.ensures.value)
    (c.for_in.ensures.code c.in-ForIn.demanded)

pub form-returns-in-ForTo-clause-scope : goal.form-returns-in-ForTo-clause-scope
form-returns-in-ForTo-clause-scope t c =
    rw (c.in-ForTo.is, block_of_vec c.in-ForTo.inner, ← c.as_slice-in-ForTo.ensures.value)
    (c.for_to.ensures.scope c.in-ForTo.demanded)

pub form-returns-in-ForTo-clause-shapes : goal.form-returns-in-ForTo-clause-shapes
form-returns-in-ForTo-clause-shapes t c =
    rw (c.in-ForTo.is, block_of_vec c.in-ForTo.inner, ← c.as_slice-in-ForTo.ensures.value) c.for_to.ensures.shapes

pub form-returns-in-ForTo-clause-code : goal.form-returns-in-ForTo-clause-code
form-returns-in-ForTo-clause-code t c =
    rw (c.in-ForTo.is, block_of_vec c.in-ForTo.inner, ← c.as_slice-in-ForTo.ensures.value)
    (c.for_to.ensures.code c.in-ForTo.demanded)

pub form-returns-in-Do-clause-scope : goal.form-returns-in-Do-clause-scope
form-returns-in-Do-clause-scope t c =
    rw (c.in-Do.is, block_of_vec c.in-Do.inner, ← c.as_slice-in-Do.ensures.value) c.nested.ensures.scope

pub form-returns-in-Do-clause-shapes : goal.form-returns-in-Do-clause-shapes
form-returns-in-Do-clause-shapes t c =
    rw (c.in-Do.is, block_of_vec c.in-Do.inner, ← c.as_slice-in-Do.ensures.value) c.nested.ensures.shapes

pub form-returns-in-Do-clause-code : goal.form-returns-in-Do-clause-code
form-returns-in-Do-clause-code t c =
    rw (c.in-Do.is, block_of_vec c.in-Do.inner, ← c.as_slice-in-Do.ensures.value) c.nested.ensures.code

pub otherwise-returns-in-Some-clause-scope : goal.otherwise-returns-in-Some-clause-scope
otherwise-returns-in-Some-clause-scope t c =
    rw (c.in-If.is, otherwise_of_option c.in-If.other, c.in-Some.is, ← c.as_slice.ensures.value) c.nested.ensures.scope

pub otherwise-returns-in-Some-clause-shapes : goal.otherwise-returns-in-Some-clause-shapes
otherwise-returns-in-Some-clause-shapes t c =
    rw (c.in-If.is, otherwise_of_option c.in-If.other, c.in-Some.is, ← c.as_slice.ensures.value) c.nested.ensures.shapes

pub otherwise-returns-in-Some-clause-code : goal.otherwise-returns-in-Some-clause-code
otherwise-returns-in-Some-clause-code t c =
    rw (c.in-If.is, otherwise_of_option c.in-If.other, c.in-Some.is, ← c.as_slice.ensures.value) c.nested.ensures.code

-- ---- a loop over points, by its shape

pub for_in-returns-in-Some-clause-scope : goal.for_in-returns-in-Some-clause-scope
for_in-returns-in-Some-clause-scope t c demanded =
    let tree = tree_at c.args.at.now in
    let s = seen c.args.scope.now in
    let n = c.args.name.now in
    let body = block_in c.args.stmts.now in
    let both = c.in_ok-taken.taken.over_space && c.next_is_launch-launches.result in
    let is : cond both (one_call body) None ≡ Some (call_of c.in-Some.call) =
    subst (λ (o : Option Launched). IfSome o (λ k. cond both (one_call body) None ≡ Some (call_of k)))
    c.in-Some.is c.launched_call.ensures.some in
    let kind = taken_from (type_of tree s (expression_of c.args.domain.now)) in
    let whole : past s (with_name s n c.in_ok-taken.taken.static_type true) ≡ past s (scope_after_block tree (with_name s n kind true) body) =
    ap (λ (k : StaticType). past s (with_name s n k true)) c.in_ok-taken.ensures.typed
    ∙ ap (past s) (sym (launched_scope tree (with_name s n kind true) both body (call_of c.in-Some.call) is)) in
    subst (λ (u : Scope). OnOk c.in_one_step.result (seen c.in_one_step.new.scope ≡ u)) whole c.in_one_step.ensures.scope

pub for_in-returns-in-Some-clause-shapes : goal.for_in-returns-in-Some-clause-shapes
for_in-returns-in-Some-clause-shapes t c =
    let body = block_in c.args.stmts.now in
    let both = c.in_ok-taken.taken.over_space && c.next_is_launch-launches.result in
    let is : cond both (one_call body) None ≡ Some (call_of c.in-Some.call) =
    subst (λ (o : Option Launched). IfSome o (λ k. cond both (one_call body) None ≡ Some (call_of k)))
    c.in-Some.is c.launched_call.ensures.some in
    on_ok c.in_one_step.result (c.next_is_launch-launches.new.self ≡ shapes_after_block (drop 1 c.args.shapes.now) body)
    (c.next_is_launch-launches.ensures.rest ∙ sym (launched_shapes (drop 1 c.args.shapes.now) both body (call_of c.in-Some.call) is))

pub for_in-returns-in-Some-clause-code : goal.for_in-returns-in-Some-clause-code
for_in-returns-in-Some-clause-code t c demanded =
    let w = where_in c.args.at.now c.args.scope.now in
    let ls = c.args.shapes.now in
    let n = c.args.name.now in
    let domain = expression_of c.args.domain.now in
    let body = block_in c.args.stmts.now in
    let both = c.in_ok-taken.taken.over_space && c.next_is_launch-launches.result in
    let is : cond both (one_call body) None ≡ Some (call_of c.in-Some.call) =
    subst (λ (o : Option Launched). IfSome o (λ k. cond both (one_call body) None ≡ Some (call_of k)))
    c.in-Some.is c.launched_call.ensures.some in
    let kind = taken_from (typed w domain) in
    let b0 = c.args.body.now in
    let call = call_of c.in-Some.call in
    let points = points_code w (is_pointer kind) (block_by (drop 1 ls) (looping w n kind) body) in
    let given : given_call ls w domain body ≡ Some call =
    sym (ap (λ (b : Bool). cond (b && first_is_launch ls) (one_call body) None) c.in_ok-taken.ensures.space)
    ∙ sym (ap (λ (b : Bool). cond (c.in_ok-taken.taken.over_space && b) (one_call body) None) c.next_is_launch-launches.ensures.first)
    ∙ is in
    let whole : emitted c.points_in.new.body (launch_code w (on_line (looping w n c.in_ok-taken.taken.static_type) call.line) n (beside w (new_place w)) call)
    ≡ emitted b0 (form_by ls w (for_in_form demanded n domain body)) =
    ap (λ (k : StaticType). emitted c.points_in.new.body (launch_code w (on_line (looping w n k) call.line) n (beside w (new_place w)) call)) c.in_ok-taken.ensures.typed
    ∙ ap (λ (b : List Line). emitted b (launch_code w (on_line (looping w n kind) call.line) n (beside w (new_place w)) call)) c.in_ok-taken.ensures.code
    ∙ sym (ap (λ (o : Option LaunchedCall). emitted (emitted b0 (domain_code w domain)) (in_one_step w (looping w n kind) n o points)) given) in
    subst (λ (b : List Line). OnOk c.in_one_step.result (c.in_one_step.new.body ≡ b)) whole c.in_one_step.ensures.code

pub for_in-returns-in-None-clause-scope : goal.for_in-returns-in-None-clause-scope
for_in-returns-in-None-clause-scope t c demanded =
    let tree = tree_at c.args.at.now in
    let s = seen c.args.scope.now in
    let n = c.args.name.now in
    let body = block_in c.args.stmts.now in
    subst (λ (k : StaticType). OnOk c.by_points.result (seen c.by_points.new.scope ≡ past s (scope_after_block tree (with_name s n k true) body)))
    c.in_ok-taken.ensures.typed c.by_points.ensures.scope

pub for_in-returns-in-None-clause-shapes : goal.for_in-returns-in-None-clause-shapes
for_in-returns-in-None-clause-shapes t c =
    subst (λ (us : List LoopShape). OnOk c.by_points.result (c.by_points.new.shapes ≡ shapes_after_block us (block_in c.args.stmts.now)))
    c.next_is_launch-launches.ensures.rest c.by_points.ensures.shapes

pub for_in-returns-in-None-clause-code : goal.for_in-returns-in-None-clause-code
for_in-returns-in-None-clause-code t c demanded =
    let w = where_in c.args.at.now c.args.scope.now in
    let line = c.args.at.now.line in
    let ls = c.args.shapes.now in
    let us = c.next_is_launch-launches.new.self in
    let n = c.args.name.now in
    let domain = expression_of c.args.domain.now in
    let body = block_in c.args.stmts.now in
    let both = c.in_ok-taken.taken.over_space && c.next_is_launch-launches.result in
    let is : cond both (one_call body) None ≡ None =
    subst (λ (o : Option Launched). IfNone o (cond both (one_call body) None ≡ None))
    c.in-None.is c.launched_call.ensures.none in
    let kind = taken_from (typed w domain) in
    let taken = c.in_ok-taken.taken in
    let b0 = c.args.body.now in
    let b1 = c.points_in.new.body in
    let points = points_code w (is_pointer kind) (block_by (drop 1 ls) (looping w n kind) body) in
    let given : given_call ls w domain body ≡ None =
    sym (ap (λ (b : Bool). cond (b && first_is_launch ls) (one_call body) None) c.in_ok-taken.ensures.space)
    ∙ sym (ap (λ (b : Bool). cond (c.in_ok-taken.taken.over_space && b) (one_call body) None) c.next_is_launch-launches.ensures.first)
    ∙ is in
    let whole : emitted b1 (counter_code w ⨟ rounds (head_instr taken.head) line (block_by us (looping w n taken.static_type) body))
    ≡ emitted b0 (form_by ls w (for_in_form demanded n domain body)) =
    ap (λ (h : Head). emitted b1 (counter_code w ⨟ rounds (head_instr h) line (block_by us (looping w n taken.static_type) body))) c.in_ok-taken.ensures.head
    ∙ ap (λ (k : StaticType). emitted b1 (counter_code w ⨟ rounds (head_instr (point_head w k)) line (block_by us (looping w n k) body))) c.in_ok-taken.ensures.typed
    ∙ ap (λ (vs : List LoopShape). emitted b1 (counter_code w ⨟ rounds (head_instr (point_head w kind)) line (block_by vs (looping w n kind) body))) c.next_is_launch-launches.ensures.rest
    ∙ ap (λ (b : List Line). emitted b points) c.in_ok-taken.ensures.code
    ∙ sym (ap (λ (o : Option LaunchedCall). emitted (emitted b0 (domain_code w domain)) (in_one_step w (looping w n kind) n o points)) given) in
    subst (λ (b : List Line). OnOk c.by_points.result (c.by_points.new.body ≡ b)) whole c.by_points.ensures.code
