use Rattle.std.proofs.Common.{◌≡◌, ◌++◌, ◌∷◌, None, ap, length, refl, subst, sym, true, ◌∙◌}
use Rattle.std.proofs.lemmas.Result.{err_from_is_err_and}
use Rattle.regent_tree.specs.Plain.{expression_of}
use Rattle.regent_tree.specs.PlainProgram.{arms_in, block_in, otherwise_of}
use Rattle.regent_tree.specs.Scopes.{past, with_name}
use Rattle.regent_tree.specs.Syntax.{else_block, no_else}
use Rattle.regent_tree.specs.declared.statement.What.TheBlock.{back-What-If-1}
use Rattle.regent_tree.proofs.Rows.{arms_of_vec, block_of_vec, otherwise_of_option}
use Rattle.static_types.specs.Telling.{Anything}
use Rattle.check_forms.proofs.ByForm.{bounds_first, domain_first, tests_first, while_first}
use Rattle.check_rules.specs.first.FirstInStatements.{first_in_arms, first_in_block, told_on}
use Rattle.check_rules.specs.scopes.Variables.{known_scope_after_arms, known_scope_after_block}
use Rattle.check_rules.specs.launches.Views.{only_call}
use Rattle.check_rules.specs.scopes.Visits.{visits_in, visits_in_arms}
use Rattle.launch_views.specs.Firsts.{first_of_only}
use Rattle.check_items.specs.Halting.{IsToldAt, TellsAt}
use Rattle.check_expressions.specs.Seen.{seen}
use Rattle.check_expressions.specs.Sites.{task_at, tree_at}
use Rattle.type_check.proofs.Blocks.{block_left, block_names, head_found, head_none, head_passes, head_stops, loop_names, none_of_both, stops_after, told_after, told_here}
use Rattle.type_check.proofs.Following.{arms_on, arms_stop, after_arms_on, after_on, block_on, block_stop, found_arms_on, found_on}
use Rattle.type_check.proofs.LoopBlocks.{ToldOfLoop, found_as, found_behind, found_both, found_first, line_stops, placed, shape_behind, stops_alone, told_alone, untold_behind}
use Rattle.type_check.specs.Loops.{first_of_shape, loops_of, shape_in}
use Rattle.index_launch.specs.declared.view.LaunchShape.{LaunchShape}
use Rattle.type_check.proofs.statements.+statement.Goals as goal

pub arm_blocks-returns-in_err-nested : goal.arm_blocks-returns-in_err-nested
arm_blocks-returns-in_err-nested t c =
    let tree = tree_at c.args.site.now in
    let task = task_at c.args.site.now in
    let arms = c.args.arms.now in
    let halt = c.in_err-nested.field-0.0 in
    let p = err_from_is_err_and c.from_residual.result c.from_residual.ensures.1 in
    rw (p.1, p.2) (arms_stop tree task arms c.loop-arm.arm-index c.arm-item.result (seen c.loop-arm.scope) halt
    (first_in_arms tree task (seen c.args.scope.now) (arms_in arms)) c.loop-arm-test.true c.arm-item.is
    (rw c.as_slice.ensures.value at c.in_err-nested.ensures) c.loop-arm.invariant.told)

pub arm_blocks-loop-arm-preserved : goal.arm_blocks-loop-arm-preserved
arm_blocks-loop-arm-preserved t c =
    let tree = tree_at c.args.site.now in
    let task = task_at c.args.site.now in
    let arms = c.args.arms.now in
    let i = c.loop-arm.arm-index in
    let a = c.arm-item.result in
    let s = seen c.loop-arm.scope in
    let u = seen c.nested.new.scope in
    let here = rw c.as_slice.ensures.value at c.in_ok-nested.ensures in
    record {
      told = arms_on tree task arms i a s u (first_in_arms tree task (seen c.args.scope.now) (arms_in arms))
          c.loop-arm-test.true c.arm-item.is here.0 here.1.0 c.loop-arm.invariant.told;
      known = after_arms_on tree task arms i a s u (known_scope_after_arms tree (seen c.args.scope.now) (arms_in arms))
          c.loop-arm-test.true c.arm-item.is here.1.0 c.loop-arm.invariant.known;
      found = found_arms_on tree task arms i a s u c.loop-arm.found c.nested.new.found
          (c.args.found.now ++ loops_of tree (visits_in_arms tree task (seen c.args.scope.now) (arms_in arms)))
          c.loop-arm-test.true c.arm-item.is here.1.0 here.1.1 c.loop-arm.invariant.found;
    }

pub block-returns-in_err-statement : goal.block-returns-in_err-statement
block-returns-in_err-statement t c =
    let tree = tree_at c.args.site.now in
    let task = task_at c.args.site.now in
    let body = c.args.body.now in
    let p = err_from_is_err_and c.from_residual.result c.from_residual.ensures.1 in
    rw (p.1, p.2) (block_stop tree task body c.loop-stmt.stmt-index c.stmt-item.result (seen c.loop-stmt.scope)
    c.in_err-statement.field-0.0 (first_in_block tree task (seen c.args.scope.now) (block_in body))
    c.loop-stmt-test.true c.stmt-item.is c.in_err-statement.ensures c.loop-stmt.invariant.told)

pub block-loop-stmt-preserved : goal.block-loop-stmt-preserved
block-loop-stmt-preserved t c =
    let tree = tree_at c.args.site.now in
    let task = task_at c.args.site.now in
    let body = c.args.body.now in
    let i = c.loop-stmt.stmt-index in
    let x = c.stmt-item.result in
    let s = seen c.loop-stmt.scope in
    let u = seen c.statement.new.scope in
    record {
      told = block_on tree task body i x s u (first_in_block tree task (seen c.args.scope.now) (block_in body))
          c.loop-stmt-test.true c.stmt-item.is c.in_ok-statement.ensures.0 c.in_ok-statement.ensures.1.0 c.loop-stmt.invariant.told;
      known = after_on tree task body i x s u (known_scope_after_block tree (seen c.args.scope.now) (block_in body))
          c.loop-stmt-test.true c.stmt-item.is c.in_ok-statement.ensures.1.0 c.loop-stmt.invariant.known;
      found = found_on tree task body i x s u c.loop-stmt.found c.statement.new.found
          (c.args.found.now ++ loops_of tree (visits_in tree task (seen c.args.scope.now) (block_in body)))
          c.loop-stmt-test.true c.stmt-item.is c.in_ok-statement.ensures.1.0 c.in_ok-statement.ensures.1.1 c.loop-stmt.invariant.found;
    }

pub loop_block-returns : goal.loop_block-returns
loop_block-returns t c =
    let tree = tree_at c.args.site.now in
    let task = task_at c.args.site.now in
    let s = seen c.args.scope.now in
    let n = c.args.name.now in
    let over = c.args.over_space in
    let body = block_in c.args.body.now in
    let now = seen c.block.new.scope in
    let known : now ≡ known_scope_after_block tree s body = c.in_ok-block.ensures.1.0 in
    found_behind (λ x. x ≡ shape_in tree now n over body)
    (λ x. (now ≡ known_scope_after_block tree s body) × (c.block.new.found ≡ c.args.found.now ++ loops_of tree (visits_in tree task s body))
    × (x ≡ shape_in tree s n over body))
    c.args.line c.shape_of.result c.on_line.result _ _ c.on_line.ensures
    (subst (λ u. first_of_only tree task u (only_call body) ≡ None) (sym known) (untold_behind tree task s body c.in_ok-block.ensures.0))
    c.in_ok-block.ensures.0 c.shape_of.ensures
    (λ x h. (known, c.in_ok-block.ensures.1.1, h ∙ ap (λ u. shape_in tree u n over body) known ∙ shape_behind tree s n over body))

pub check_loop-returns-in_err-shape : goal.check_loop-returns-in_err-shape
check_loop-returns-in_err-shape t c =
    let tree = tree_at c.args.site.now in
    let task = task_at c.args.site.now in
    let inner : seen c.bind.new.self ≡ with_name (seen c.args.scope.now) c.args.name.now c.args.head.taken true =
    c.in_ok-bind.ensures ∙ ap (λ m. with_name (seen c.args.scope.now) m c.args.head.taken true) c.in_ok-name_bound.ensures in
    let h = c.in_err-shape.field-0.0 in
    let p = err_from_is_err_and c.from_residual-in_err-shape.result c.from_residual-in_err-shape.ensures.1 in
    rw (p.1, p.2) (told_here h _ _ (subst (λ u. IsToldAt h (first_in_block tree task u (block_in c.args.body.now))) inner c.in_err-shape.ensures))

pub check_loop-returns-in_err-on_line : goal.check_loop-returns-in_err-on_line
check_loop-returns-in_err-on_line t c =
    let tree = tree_at c.args.site.now in
    let task = task_at c.args.site.now in
    let n = c.args.name.now in
    let over = c.args.head.over_space in
    let body = block_in c.args.body.now in
    let own = with_name (seen c.args.scope.now) n c.args.head.taken true in
    let inner : seen c.bind.new.self ≡ own =
    c.in_ok-bind.ensures ∙ ap (λ m. with_name (seen c.args.scope.now) m c.args.head.taken true) c.in_ok-name_bound.ensures in
    let is : c.in_ok-shape.shape ≡ shape_in tree own n over body =
    c.in_ok-shape.ensures.1.2 ∙ ap (λ u. shape_in tree u n over body) inner in
    let h = c.in_err-on_line.field-0.0 in
    let p = err_from_is_err_and c.from_residual-in_err-on_line.result c.from_residual-in_err-on_line.ensures.1 in
    rw (p.1, p.2) (stops_after h (first_in_block tree task own body) _
    (subst (λ u. first_in_block tree task u body ≡ None) inner c.in_ok-shape.ensures.0)
    (subst (λ x. IsToldAt h (told_on c.args.line (first_of_shape c.args.head.demanded x))) is
    (line_stops Anything c.args.line c.demand.result h _ c.in_err-on_line.ensures c.demand.ensures)))

pub check_loop-returns : goal.check_loop-returns
check_loop-returns t c =
    let tree = tree_at c.args.site.now in
    let task = task_at c.args.site.now in
    let s = seen c.args.scope.now in
    let n = c.args.name.now in
    let taken = c.args.head.taken in
    let over = c.args.head.over_space in
    let line = c.args.line in
    let body = block_in c.args.body.now in
    let own = with_name s n taken true in
    let inner : seen c.bind.new.self ≡ own =
    c.in_ok-bind.ensures ∙ ap (λ m. with_name s m taken true) c.in_ok-name_bound.ensures in
    let is : c.in_ok-shape.shape ≡ shape_in tree own n over body =
    c.in_ok-shape.ensures.1.2 ∙ ap (λ u. shape_in tree u n over body) inner in
    let len : c.len-outer.result ≡ length c.args.scope.now.names = c.len-outer.ensures ∙ ap length c.names.ensures in
    let fine = head_none Anything line c.in_ok-on_line.field-0 c.demand.result _ _ c.in_ok-on_line.ensures refl c.demand.ensures in
    let more = loops_of tree (visits_in tree task own body) in
    let all : c.loop_block.new.found ≡ c.push.new.self ++ more =
    c.in_ok-shape.ensures.1.1 ∙ ap (λ u. c.push.new.self ++ loops_of tree (visits_in tree task u body)) inner in (
      none_of_both _ _ (subst (λ u. first_in_block tree task u body ≡ None) inner c.in_ok-shape.ensures.0)
          (subst (λ x. told_on line (first_of_shape c.args.head.demanded x) ≡ None) is fine),
      (
        block_left s (known_scope_after_block tree own body) c.loop_block.new.scope c.leave.new.self
            (c.in_ok-shape.ensures.1.0 ∙ ap (λ u. known_scope_after_block tree u body) inner)
            (loop_names tree s n taken body) (rw len at c.leave.ensures),
        placed c.args.found.now _ (record { line = line; shape = c.in_ok-shape.shape }) more c.push.new.self c.loop_block.new.found c.set.new.self c.len-place.result
            c.len-place.ensures c.in_ok-push.ensures.ok all c.set.ensures
            ∙ ap (λ (x : LaunchShape). c.args.found.now ++ record { line = line; shape = x } ∷ more) is,
      ),
    )

pub nested-returns : goal.nested-returns
nested-returns t c =
    let tree = tree_at c.args.site.now in
    let s = seen c.args.scope.now in
    let body = block_in c.args.body.now in
    let len : c.len-len.result ≡ length c.args.scope.now.names = c.len-len.ensures ∙ ap length c.names.ensures in (
      c.in_ok-block.ensures.0,
      (
        block_left s (known_scope_after_block tree s body) c.block.new.scope c.leave.new.self c.in_ok-block.ensures.1.0
            (block_names tree s body) (rw len at c.leave.ensures),
        c.in_ok-block.ensures.1.1,
      ),
    )

-- ---- `if`

pub statement-returns-in_err-on_line-in-If : goal.statement-returns-in_err-on_line-in-If
statement-returns-in_err-on_line-in-If t c =
    let p = err_from_is_err_and c.from_residual.result c.from_residual.ensures.1 in
    let told = rw c.as_slice.ensures.value at c.tests.ensures in
    rw (c.in-If.is, arms_of_vec c.in-If.arms, p.1, p.2)
    (head_stops Anything c.args.stmt.now.line c.tests.result c.in_err-on_line-in-If.field-0.0 _ _ _ c.in_err-on_line-in-If.ensures
    (tests_first (tree_at c.args.site.now) (task_at c.args.site.now) (seen c.args.scope.now) (arms_in c.in-If.arms.items) (otherwise_of (back-What-If-1 c.in-If.other)))
    told)

pub statement-returns-in_err-arm_blocks-in-If : goal.statement-returns-in_err-arm_blocks-in-If
statement-returns-in_err-arm_blocks-in-If t c =
    let p = err_from_is_err_and c.from_residual-in_err-arm_blocks-in-If.result c.from_residual-in_err-arm_blocks-in-If.ensures.1 in
    let h = c.in_err-arm_blocks-in-If.field-0.0 in
    let told = rw c.as_slice.ensures.value at c.tests.ensures in
    let blocks = rw c.as_slice-in-If.ensures.value at c.in_err-arm_blocks-in-If.ensures in
    let none = head_none Anything c.args.stmt.now.line c.in_ok-on_line-in-If.field-0 c.tests.result _ _ c.in_ok-on_line-in-If.ensures
    (tests_first (tree_at c.args.site.now) (task_at c.args.site.now) (seen c.args.scope.now) (arms_in c.in-If.arms.items) (otherwise_of (back-What-If-1 c.in-If.other)))
    told in
    rw (c.in-If.is, arms_of_vec c.in-If.arms, p.1, p.2)
    (stops_after h _ _ none (stops_alone h _ (told_here h _ _ blocks)))

pub statement-returns-in-Some : goal.statement-returns-in-Some
statement-returns-in-Some t c =
    let tree = tree_at c.args.site.now in
    let task = task_at c.args.site.now in
    let s = seen c.args.scope.now in
    let arms = arms_in c.as_slice.result.now in
    let body = block_in c.as_slice-in-Some.result.now in
    let after = known_scope_after_arms tree s arms in
    let blocks = rw (c.as_slice-in-If.ensures.value, ← c.as_slice.ensures.value) at c.in_ok-arm_blocks-in-If.ensures in
    let other = subst
    (λ u. TellsAt (λ _. (seen c.nested.new.scope ≡ past u (known_scope_after_block tree u body))
    × (c.nested.new.found ≡ c.arm_blocks.new.found ++ loops_of tree (visits_in tree task u body))) c.nested.result (first_in_block tree task u body))
    blocks.1.0 c.nested.ensures in
    let whole = found_as _ (λ _. (seen c.nested.new.scope ≡ past after (known_scope_after_block tree after body))
    × (c.nested.new.found ≡ c.args.found.now ++ loops_of tree (visits_in_arms tree task s arms ++ visits_in tree task after body)))
    c.nested.result _
    (λ _ h. (
      h.0,
      found_both tree (visits_in_arms tree task s arms) (visits_in tree task after body) c.args.found.now c.arm_blocks.new.found
          c.nested.new.found blocks.1.1 h.1,
    )) other in
    rw (c.in-If.is, arms_of_vec c.in-If.arms, otherwise_of_option c.in-If.other, c.in-Some.is, ← c.as_slice.ensures.value, ← c.as_slice-in-Some.ensures.value)
    (head_passes Anything _ c.args.stmt.now.line c.in_ok-on_line-in-If.field-0 c.tests.result c.nested.result _ _ _ c.in_ok-on_line-in-If.ensures
    (tests_first tree task s arms (else_block body)) c.tests.ensures
    (told_alone _ c.nested.result _ (told_after _ c.nested.result (first_in_arms tree task s arms) _ blocks.0 whole)))

pub statement-returns-in-None : goal.statement-returns-in-None
statement-returns-in-None t c =
    let tree = tree_at c.args.site.now in
    let task = task_at c.args.site.now in
    let s = seen c.args.scope.now in
    let arms = arms_in c.as_slice.result.now in
    let blocks = rw (c.as_slice-in-If.ensures.value, ← c.as_slice.ensures.value) at c.in_ok-arm_blocks-in-If.ensures in
    let none = head_none Anything c.args.stmt.now.line c.in_ok-on_line-in-If.field-0 c.tests.result _ _ c.in_ok-on_line-in-If.ensures
    (tests_first tree task s arms no_else) c.tests.ensures in
    rw (c.in-If.is, arms_of_vec c.in-If.arms, otherwise_of_option c.in-If.other, c.in-None.is, ← c.as_slice.ensures.value) (
      none_of_both _ _ none (none_of_both _ _ (none_of_both _ _ blocks.0 refl) refl),
      (blocks.1.0, found_first tree (visits_in_arms tree task s arms) c.args.found.now c.arm_blocks.new.found blocks.1.1),
    )

-- ---- loops

pub statement-returns-in_err-on_line-in-While : goal.statement-returns-in_err-on_line-in-While
statement-returns-in_err-on_line-in-While t c =
    let p = err_from_is_err_and c.from_residual-in_err-on_line-in-While.result c.from_residual-in_err-on_line-in-While.ensures.1 in
    rw (c.in-While.is, block_of_vec c.in-While.body, p.1, p.2)
    (head_stops Anything c.args.stmt.now.line c.test.result c.in_err-on_line-in-While.field-0.0 _ _ _ c.in_err-on_line-in-While.ensures
    (while_first (tree_at c.args.site.now) (task_at c.args.site.now) (seen c.args.scope.now) (expression_of c.in-While.e) (block_in c.in-While.body.items))
    c.test.ensures)

pub statement-returns-in_ok-on_line-in-While : goal.statement-returns-in_ok-on_line-in-While
statement-returns-in_ok-on_line-in-While t c =
    rw (c.in-While.is, block_of_vec c.in-While.body, ← c.as_slice-in-While.ensures.value)
    (head_passes Anything _ c.args.stmt.now.line c.in_ok-on_line-in-While.field-0 c.test.result c.nested-in-While.result _ _ _
    c.in_ok-on_line-in-While.ensures
    (while_first (tree_at c.args.site.now) (task_at c.args.site.now) (seen c.args.scope.now) (expression_of c.in-While.e) (block_in c.as_slice-in-While.result.now))
    c.test.ensures (told_alone _ c.nested-in-While.result _ c.nested-in-While.ensures))

pub statement-returns-in_err-head-in-ForIn : goal.statement-returns-in_err-head-in-ForIn
statement-returns-in_err-head-in-ForIn t c =
    let p = err_from_is_err_and c.from_residual-in_err-head-in-ForIn.result c.from_residual-in_err-head-in-ForIn.ensures.1 in
    rw (c.in-ForIn.is, block_of_vec c.in-ForIn.body, p.1, p.2)
    (head_stops _ c.args.stmt.now.line c.domain.result c.in_err-head-in-ForIn.field-0.0 _ _ _ c.in_err-head-in-ForIn.ensures
    (domain_first (tree_at c.args.site.now) (task_at c.args.site.now) (seen c.args.scope.now) c.in-ForIn.demanded c.in-ForIn.name (expression_of c.in-ForIn.e) (block_in c.in-ForIn.body.items))
    c.domain.ensures)

pub statement-returns-in_ok-head-in-ForIn : goal.statement-returns-in_ok-head-in-ForIn
statement-returns-in_ok-head-in-ForIn t c =
    let tree = tree_at c.args.site.now in
    let task = task_at c.args.site.now in
    let s = seen c.args.scope.now in
    let n = c.in-ForIn.name in
    let body = block_in c.as_slice-in-ForIn.result.now in
    let found = head_found _ c.args.stmt.now.line c.in_ok-head-in-ForIn.head c.domain.result _ c.in_ok-head-in-ForIn.ensures c.domain.ensures in
    let blocks = subst (λ h. ToldOfLoop tree task s n c.args.stmt.now.line body c.args.found.now (seen c.check_loop.new.scope) c.check_loop.new.found c.check_loop.result h)
    found c.check_loop.ensures in
    rw (c.in-ForIn.is, block_of_vec c.in-ForIn.body, ← c.as_slice-in-ForIn.ensures.value)
    (head_passes _ _ c.args.stmt.now.line c.in_ok-head-in-ForIn.head c.domain.result c.check_loop.result _ _ _
    c.in_ok-head-in-ForIn.ensures (domain_first tree task s c.in-ForIn.demanded n (expression_of c.in-ForIn.e) body)
    c.domain.ensures blocks)

pub statement-returns-in_err-head-in-ForTo : goal.statement-returns-in_err-head-in-ForTo
statement-returns-in_err-head-in-ForTo t c =
    let p = err_from_is_err_and c.from_residual-in_err-head-in-ForTo.result c.from_residual-in_err-head-in-ForTo.ensures.1 in
    rw (c.in-ForTo.is, block_of_vec c.in-ForTo.body, p.1, p.2)
    (head_stops _ c.args.stmt.now.line c.bounds.result c.in_err-head-in-ForTo.field-0.0 _ _ _ c.in_err-head-in-ForTo.ensures
    (bounds_first (tree_at c.args.site.now) (task_at c.args.site.now) (seen c.args.scope.now) c.in-ForTo.demanded c.in-ForTo.name
    (expression_of c.in-ForTo.from) (expression_of c.in-ForTo.to) (block_in c.in-ForTo.body.items))
    c.bounds.ensures)

pub statement-returns-in_ok-head-in-ForTo : goal.statement-returns-in_ok-head-in-ForTo
statement-returns-in_ok-head-in-ForTo t c =
    let tree = tree_at c.args.site.now in
    let task = task_at c.args.site.now in
    let s = seen c.args.scope.now in
    let n = c.in-ForTo.name in
    let body = block_in c.as_slice-in-ForTo.result.now in
    let found = head_found _ c.args.stmt.now.line c.in_ok-head-in-ForTo.head c.bounds.result _ c.in_ok-head-in-ForTo.ensures c.bounds.ensures in
    let blocks = subst (λ h. ToldOfLoop tree task s n c.args.stmt.now.line body c.args.found.now (seen c.check_loop-in-ForTo.new.scope) c.check_loop-in-ForTo.new.found c.check_loop-in-ForTo.result h)
    found c.check_loop-in-ForTo.ensures in
    rw (c.in-ForTo.is, block_of_vec c.in-ForTo.body, ← c.as_slice-in-ForTo.ensures.value)
    (head_passes _ _ c.args.stmt.now.line c.in_ok-head-in-ForTo.head c.bounds.result c.check_loop-in-ForTo.result _ _ _
    c.in_ok-head-in-ForTo.ensures
    (bounds_first tree task s c.in-ForTo.demanded n (expression_of c.in-ForTo.from) (expression_of c.in-ForTo.to) body)
    c.bounds.ensures blocks)

pub statement-returns-in-Do : goal.statement-returns-in-Do
statement-returns-in-Do t c =
    rw (c.in-Do.is, block_of_vec c.in-Do.body, ← c.as_slice-in-Do.ensures.value) (told_alone _ c.nested-in-Do.result _ c.nested-in-Do.ensures)
