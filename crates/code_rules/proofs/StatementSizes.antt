-- The code of each statement has at most 16 instructions for each of its nodes.
use Rattle.std.proofs.Common.{◌≡◌, ◌≤◌, ◌+◌, ◌*◌, ℕ, List, [], ◌∷◌, ◌++◌, length, refl, ap, arith, Bool, true, false, cond, Option, Some, None}
use Rattle.lane_kernels.specs.declared.numbers.Op.TheVariants.{Sum, Product, Least, Greatest}
use Rattle.lane_kernels.specs.declared.numbers.Op.{Op}
use Rattle.lane_kernels.specs.declared.numbers.Width.{Width}
use Rattle.regent_tree.specs.Accesses.{args_in, space_in}
use Rattle.regent_tree.specs.Execution.{before_last, last_field}
use Rattle.regent_tree.specs.Limits.{number_of_nodes, nodes, parts_of_arms, parts_of_block, parts_of_expression, parts_of_form, parts_of_init, parts_of_otherwise, parts_of_steps, parts_of_type}
use Rattle.regent_tree.specs.StaticTypes.{field_type, task_named}
use Rattle.regent_tree.specs.Syntax.{Name, Expression, Initializer, access_expr, Steps, no_step, field_step, at_step, Form, a_statement, then_statement, no_statement, Block, Arms, no_arm, an_arm, Otherwise, no_else, else_block, var_form, if_form, while_form, for_in_form, for_to_form, do_form, fill_form, assert_form, print_form, call_form, assign_form, return_form, region_initializer, equal_initializer, by_field_initializer, image_initializer, preimage_initializer, both_initializer, either_initializer, plain_initializer}
use Rattle.regent_tree.specs.Typing.{arithmetic_type, is_pointer, params_at, reaches_of, stepped_type, taken_from, var_type}
use Rattle.regent_tree.specs.declared.statement.How.{How}
use Rattle.regent_tree.specs.declared.statement.How.TheVariants as how
use Rattle.regent_tree.specs.declared.types.TypeTerm.{TypeTerm}
use Rattle.regent_tree.specs.declared.typing.StaticType.{StaticType}
use Rattle.check_rules.specs.launches.Shapes.{shape_of}
use Rattle.code_rules.specs.Assignments.{fill_code, fold_code, put_code, right_code, set_code, slot_behind, target_code}
use Rattle.code_rules.specs.Expressions.{expr_code}
use Rattle.code_rules.specs.Initializers.{beside_code, declared_code, initializer_code, plain_code}
use Rattle.std.specs.Prelude.{◌&&◌}
use Rattle.code_rules.specs.Launches.{is_launch}
use Rattle.check_rules.specs.types.Sorts.{is_space}
use Rattle.code_rules.specs.Pieces.{Piece}
use Rattle.code_rules.specs.Slots.{Where, bound, own_slot, slot, slot_named, typed}
use Rattle.code_rules.specs.Statements.{after_arm, after_arms, after_form, arms_code, block_code, else_code, form_code, looping, on_line, points_code}
use Rattle.code_rules.proofs.Sizes.{size}
use Rattle.code_rules.specs.Initializers.{names_child, new_place}
use Rattle.code_rules.specs.Instructions.{one}
use Rattle.code_rules.specs.Pieces.{◌⨟◌, empty}
use Rattle.code_rules.specs.Slots.{beside}
use Rattle.regent_tree.specs.Syntax.{number_expr, truth_expr, chain_expr, prefix_expr, call_expr, convert_expr, is_null_expr, null_expr, cast_expr, space_expr}
use Rattle.regent_tree.specs.Typing.{width_of_type}
use Rattle.task_code.specs.declared.instr.Instr.TheVariants as instr
use Rattle.code_rules.proofs.LaunchCodes.{launch_size}
use Rattle.code_rules.proofs.PlainCode.{plain_either, written_either}
use Rattle.code_rules.proofs.KeptCalls.{assigned_either, begun_either}
use Rattle.code_rules.proofs.ExpressionSizes.{both_nodes, all_nodes, converted_size, expr_size, exprs_size}

either_size : (b : Bool) (p q : Piece) (n : ℕ) → size p ≤ n → size q ≤ n → size (cond b p q) ≤ n
either_size true p q n h k = h
either_size false p q n h k = k

-- ---- initializers

beside_size : (w : Where) (t : StaticType) (e : Expression) → size (beside_code w t e) ≤ 2
beside_size w t (number_expr z v) = omega arith
beside_size w t (truth_expr b) = omega arith
beside_size w t (chain_expr first rest) = omega arith
beside_size w t (prefix_expr signs e) = omega arith
beside_size w t (call_expr task args) = omega arith
beside_size w t (convert_expr k e) = omega arith
beside_size w t (is_null_expr e) = omega arith
beside_size w t (null_expr k) = omega arith
beside_size w t (cast_expr k e) = omega arith
beside_size w t (space_expr k e) = omega arith
beside_size w t (access_expr n no_step) = either_size (names_child (reaches_of t))
    (one w (instr.Load (beside w (bound w n).place)) ⨟ one w (instr.Store (beside w (new_place w))))
    empty 2 (omega arith) (omega arith)
beside_size w t (access_expr n (field_step f rest)) = omega arith
beside_size w t (access_expr n (at_step e rest)) = omega arith

general : (w : Where) (t : StaticType) (e : Expression) →
    size (expr_code w 0 e ⨟ beside_code w t e) ≤ 2 + 16 * number_of_nodes (parts_of_expression e)
general w t e =
    let a = expr_size w 0 e in
    let b = beside_size w t e in
    omega (arith, a, b)

plain_size : (w : Where) (t : StaticType) (e : Expression) →
    size (plain_code w t e) ≤ 2 + 16 * number_of_nodes (parts_of_expression e)
plain_size w t e = plain_either w t e
    (λ (p : Piece). size p ≤ 2 + 16 * number_of_nodes (parts_of_expression e))
    (general w t e) (λ p q i. omega arith)

declared_size : (w : Where) (term : Option TypeTerm) (t : StaticType) (e : Expression) →
    size (declared_code w term t e) ≤ 2 + 16 * number_of_nodes (parts_of_expression e)
declared_size w None t e = plain_size w t e
declared_size w (Some term) t e =
    let a = expr_size w 0 e in
    let b = converted_size w (typed w e) t in
    written_either w t e (λ (p : Piece). size p ≤ 2 + 16 * number_of_nodes (parts_of_expression e)) (plain_size w t e) (omega (arith, a, b))

initializer_size : (w : Where) (term : Option TypeTerm) (t : StaticType) (i : Option Initializer) →
    size (initializer_code w term t i) ≤ 8 + 16 * number_of_nodes (parts_of_init i)
initializer_size w term t None = omega arith
initializer_size w term t (Some (region_initializer e u)) = let a = expr_size w 0 e in omega (arith, a)
initializer_size w term t (Some (equal_initializer r e)) = let a = expr_size w 0 e in omega (arith, a)
initializer_size w term t (Some (by_field_initializer r f e)) = let a = expr_size w 0 e in omega (arith, a)
initializer_size w term t (Some (image_initializer s p r f)) = omega arith
initializer_size w term t (Some (preimage_initializer s p r f)) = omega arith
initializer_size w term t (Some (both_initializer p q)) = omega arith
initializer_size w term t (Some (either_initializer p q)) = omega arith
initializer_size w term t (Some (plain_initializer e)) = let a = declared_size w term t e in omega (arith, a)

-- ---- assignments

-- the steps before the last one have no more nodes
pub before_nodes : (steps : Steps) →
    number_of_nodes (parts_of_steps (before_last steps)) ≤ number_of_nodes (parts_of_steps steps)
before_nodes no_step = omega arith
before_nodes (field_step f no_step) = omega arith
before_nodes (at_step e no_step) = omega arith
before_nodes (field_step f (field_step g rest)) = let a = before_nodes (field_step g rest) in omega (arith, a)
before_nodes (field_step f (at_step e rest)) = let a = before_nodes (at_step e rest) in omega (arith, a)
before_nodes (at_step e (field_step g rest)) =
    let a = before_nodes (field_step g rest) in
    let n = both_nodes (parts_of_expression e) (parts_of_steps (before_last (field_step g rest))) in
    let m = both_nodes (parts_of_expression e) (parts_of_steps (field_step g rest)) in
    omega (arith, a, n, m)
before_nodes (at_step e (at_step f rest)) =
    let a = before_nodes (at_step f rest) in
    let n = both_nodes (parts_of_expression e) (parts_of_steps (before_last (at_step f rest))) in
    let m = both_nodes (parts_of_expression e) (parts_of_steps (at_step f rest)) in
    omega (arith, a, n, m)

fold_size : (w : Where) (x : ℕ) (o : Op) (v : Width) → size (fold_code w x o v) ≤ 8
fold_size w x Sum v = omega arith
fold_size w x Product v = omega arith
fold_size w x Least v = omega arith
fold_size w x Greatest v = omega arith

set_size : (w : Where) (x : ℕ) (h : How) (t : StaticType) → size (set_code w x h t) ≤ 8
set_size w x how.Set t = omega arith
set_size w x (how.Reduce o) t = fold_size w x o (width_of_type t)

put_size : (w : Where) (t : StaticType) (s : ℕ) (f : Name) (h : How) → size (put_code w t s f h) ≡ 1
put_size w t s f how.Set = refl
put_size w t s f (how.Reduce o) = refl

stepped_size : (w : Where) (n : Name) (steps : Steps) (h : How) →
    size (expr_code w 0 (access_expr n (before_last steps))) + 1 ≤ 10 + 16 * number_of_nodes (parts_of_steps steps)
stepped_size w n steps h =
    let a = expr_size w 0 (access_expr n (before_last steps)) in
    let b = before_nodes steps in
    omega (arith, a, b)

target_size : (w : Where) (n : Name) (steps : Steps) (h : How) →
    size (target_code w n steps h) ≤ 10 + 16 * number_of_nodes (parts_of_steps steps)
target_size w n no_step h =
    let a = set_size w (slot_named w n) h (bound w n).static_type in omega (arith, a)
target_size w n (field_step f rest) h =
    let steps = field_step f rest in
    let a = stepped_size w n steps h in
    let t = (bound w n).static_type in
    let b = put_size w (stepped_type w.tree w.scope t (before_last steps))
    (slot_behind w 0 t (own_slot w t (bound w n).place) (before_last steps)) (last_field steps) h in
    omega (arith, a, b)
target_size w n (at_step e rest) h =
    let steps = at_step e rest in
    let a = stepped_size w n steps h in
    let t = (bound w n).static_type in
    let b = put_size w (stepped_type w.tree w.scope t (before_last steps))
    (slot_behind w 0 t (own_slot w t (bound w n).place) (before_last steps)) (last_field steps) h in
    omega (arith, a, b)

right_size : (w : Where) (n : Name) (steps : Steps) (h : How) (e : Expression) →
    size (right_code w n steps h e) ≤ 1 + 16 * number_of_nodes (parts_of_expression e)
right_size w n steps how.Set e =
    let a = expr_size w 0 e in
    let b = converted_size w (typed w e) (typed w (access_expr n steps)) in
    omega (arith, a, b)
right_size w n steps (how.Reduce o) e = let a = expr_size w 0 e in omega (arith, a)

fill_size : (w : Where) (from t : StaticType) (r : ℕ) (fs : List Name) →
    size (fill_code w from t r fs) ≤ 3 * length fs
fill_size w from t r [] = omega arith
fill_size w from t r (f ∷ fs) =
    let a = converted_size w from (field_type w.tree (space_in t) (args_in t) f) in
    let b = fill_size w from t r fs in
    omega (arith, a, b)

-- ---- statements

mutual
  form_size : (w : Where) (form : Form) →
      size (form_code w form) ≤ 16 + 16 * number_of_nodes (parts_of_form form)
  form_size w (var_form n term i) =
      let a = initializer_size w term (var_type w.tree w.scope term i) i in
      let k = both_nodes (parts_of_type term) (parts_of_init i) in
      let most = 16 + 16 * number_of_nodes (parts_of_form (var_form n term i)) in
      begun_either (λ (p : Piece). size p ≤ most) w (slot w (new_place w)) _ (omega (arith, a, k)) (var_type w.tree w.scope term i) i
      (λ task args is. let c = expr_size w 0 (call_expr task args) in
      let same = ap (λ (j : Option Initializer). number_of_nodes (parts_of_init j)) is in omega (arith, c, k, same))
  form_size w (if_form arms other) =
      let a = arms_size w w arms (else_code (after_arms w arms) other) in
      let b = else_size (after_arms w arms) other in
      let n = both_nodes (parts_of_arms arms) (parts_of_otherwise other) in
      omega (arith, a, b, n)
  form_size w (while_form test body) =
      let a = expr_size w 0 test in
      let b = block_size w body in
      let n = both_nodes (parts_of_expression test) (parts_of_block body) in
      omega (arith, a, b, n)
  form_size w (for_in_form demanded n domain body) =
      let a = expr_size w 0 domain in
      let inner = looping w n (taken_from (typed w domain)) in
      let b = block_size inner body in
      let m = both_nodes (parts_of_expression domain) (parts_of_block body) in
      let one_by_one = points_code w (is_pointer (taken_from (typed w domain))) (block_code inner body) in
      let c = launch_size w inner n (is_space (typed w domain) && is_launch (shape_of w.tree w.scope (for_in_form demanded n domain body))) body one_by_one
      (16 + 16 * number_of_nodes (parts_of_block body)) (omega (arith, b)) (omega arith) in
      omega (arith, a, c, m)
  form_size w (for_to_form demanded n from to body) =
      let a = expr_size w 0 from in
      let c = expr_size w 0 to in
      let b = block_size (looping w n (arithmetic_type (typed w from) (typed w to))) body in
      let n = both_nodes (parts_of_expression from) (parts_of_expression to ++ parts_of_block body) in
      let m = both_nodes (parts_of_expression to) (parts_of_block body) in
      omega (arith, a, b, c, n, m)
  form_size w (do_form body) = let a = block_size w body in omega (arith, a)
  form_size w (fill_form r fields e) =
      let a = expr_size w 0 e in
      let b = fill_size w (typed w e) (bound w r).static_type (slot_named w r) fields in
      let n = both_nodes (nodes fields) (parts_of_expression e) in
      let m = all_nodes fields in
      omega (arith, a, b, n, m)
  form_size w (assert_form e) = let a = expr_size w 0 e in omega (arith, a)
  form_size w (print_form alias format args) = let a = exprs_size w 0 [] args in omega (arith, a)
  form_size w (call_form task args) =
      let a = exprs_size w 0 (params_at w.tree w.scope (task_named w.tree task) args) args in
      omega (arith, a)
  form_size w (assign_form n steps h e) =
      let a = right_size w n steps h e in
      let b = target_size w n steps h in
      let m = both_nodes (parts_of_steps steps) (parts_of_expression e) in
      let most = 16 + 16 * number_of_nodes (parts_of_form (assign_form n steps h e)) in
      assigned_either (λ (p : Piece). size p ≤ most) w (slot_named w n) _ (omega (arith, a, b, m)) n steps h e
      (λ task args is keeps still. let c = expr_size w 0 (call_expr task args) in
      let same = ap (λ (j : Expression). number_of_nodes (parts_of_expression j)) is in omega (arith, c, m, same))
  form_size w (return_form None) = omega arith
  form_size w (return_form (Some e)) =
      let a = expr_size w 0 e in
      let b = converted_size w (typed w e) w.result in
      omega (arith, a, b)

  arms_size : (own w : Where) (arms : Arms) (other : Piece) →
      size (arms_code own w arms other) ≤ 16 * number_of_nodes (parts_of_arms arms) + size other
  arms_size own w no_arm other = omega arith
  arms_size own w (an_arm test body rest) other =
      let a = expr_size own 0 test in
      let b = block_size w body in
      let c = arms_size own (after_arm w body) rest other in
      let n = both_nodes (parts_of_expression test) (parts_of_block body ++ parts_of_arms rest) in
      let m = both_nodes (parts_of_block body) (parts_of_arms rest) in
      omega (arith, a, b, c, n, m)

  else_size : (w : Where) (other : Otherwise) →
      size (else_code w other) ≤ 16 * number_of_nodes (parts_of_otherwise other)
  else_size w no_else = omega arith
  else_size w (else_block body) = block_size w body

  pub block_size : (w : Where) (body : Block) →
      size (block_code w body) ≤ 16 * number_of_nodes (parts_of_block body)
  block_size w no_statement = omega arith
  block_size w (then_statement (a_statement line form) rest) =
      let a = form_size (on_line w line) form in
      let b = block_size (after_form w form) rest in
      let n = both_nodes (parts_of_form form) (parts_of_block rest) in
      omega (arith, a, b, n)
