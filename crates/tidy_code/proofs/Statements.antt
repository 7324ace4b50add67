-- The code of statements, and so of bodies, is tidy.
use Rattle.std.proofs.Common.{◌≡◌, ◌≤◌, ◌+◌, ◌^◌, ℕ, suc, List, [], ◌∷◌, length, length-append, refl, sym, ap, ◌∙◌, subst, arith, Bool, true, false, cond, Option, Some, None}
use Rattle.std.specs.Prelude.{◌&&◌}
use Rattle.index_launch.specs.declared.points.LaunchArg.{LaunchArg}
use Rattle.index_launch.specs.declared.points.LaunchArg.TheVariants as launch_arg
use Rattle.check_rules.specs.launches.Shapes.{shape_of}
use Rattle.check_rules.specs.types.Sorts.{is_space}
use Rattle.regent_tree.specs.Evaluation.{first_type, other_types}
use Rattle.regent_tree.specs.Execution.{before_last, last_field}
use Rattle.regent_tree.specs.Scopes.{Scope, bound_params, past, scope_of}
use Rattle.regent_tree.specs.StaticTypes.{task_named}
use Rattle.regent_tree.specs.Syntax.{Name, Tree, TaskTree, Expression, number_expr, truth_expr, chain_expr, prefix_expr, call_expr, access_expr, convert_expr, is_null_expr, null_expr, cast_expr, space_expr, Expressions, no_expr, an_expr, Steps, no_step, field_step, at_step, Initializer, region_initializer, equal_initializer, by_field_initializer, image_initializer, preimage_initializer, both_initializer, either_initializer, plain_initializer, a_statement, Form, var_form, if_form, while_form, for_in_form, for_to_form, do_form, fill_form, assert_form, print_form, call_form, assign_form, return_form, Block, no_statement, then_statement, Arms, no_arm, an_arm, Otherwise, no_else, else_block}
use Rattle.regent_tree.specs.Typing.{arithmetic_type, is_pointer, params_at, scope_after, scope_after_arms, scope_after_block, scope_after_else, stepped_type, taken_from, var_type}
use Rattle.regent_tree.specs.declared.statement.How.{How}
use Rattle.regent_tree.specs.declared.statement.How.TheVariants as how
use Rattle.regent_tree.specs.declared.types.Param.{Param}
use Rattle.regent_tree.specs.declared.types.TypeTerm.{TypeTerm}
use Rattle.regent_tree.specs.declared.typing.StaticType.{StaticType}
use Rattle.task_code.specs.declared.instr.Instr.TheVariants as instr
use Rattle.code_rules.specs.Assignments.{put_code, right_code, slot_behind, target_code}
use Rattle.code_rules.specs.Expressions.{count, expr_code}
use Rattle.code_rules.specs.Initializers.{declared_code, initializer_code, new_place, plain_code}
use Rattle.code_rules.specs.Instructions.{one, place_of_task}
use Rattle.code_rules.specs.Launches.{LaunchedCall, arg_of, args_of, fixed_code, is_fixed, is_launch, kept, kept_code, one_call, varying_arg}
use Rattle.code_rules.specs.Pieces.{Piece, ◌⨟◌, empty}
use Rattle.code_rules.specs.Programs.{body_piece, place_of}
use Rattle.code_rules.specs.Slots.{Where, slot, bound, own_slot, slot_named, typed}
use Rattle.code_rules.specs.Statements.{put_call, after_arm, after_arms, after_form, arms_code, block_code, else_code, form_code, in_one_step, looping, on_line, points_code}
use Rattle.code_rules.proofs.KeptCalls.{assigned_either, begun_either}
use Rattle.code_rules.proofs.LaunchCodes.{either_way}
use Rattle.code_rules.proofs.PlainCode.{plain_either, written_either}
use Rattle.eager_laws.specs.Pendings.{AreApart, IsApart}
use Rattle.tidy_code.specs.Laws.{BodiesAreTidy}
use Rattle.tidy_code.specs.Pieces.{Tidy, tidy_both, tidy_branch, tidy_call, tidy_empty, tidy_loop, tidy_op, tidy_over, tidy_rounds}
use Rattle.tidy_code.specs.Results.{is_result}
use Rattle.tidy_code.proofs.Classes.{beside_class, counter_class, slot_class}
use Rattle.tidy_code.proofs.Expressions.{IsLow, P, T, expr_tidy, exprs_tidy}
use Rattle.tidy_code.proofs.Lines.{pieces_tidy}
use Rattle.tidy_code.proofs.Single.{beside_tidy, by, converted_tidy, either, fill_tidy, put_tidy, set_tidy}

-- ---- initializers and assignments

plain_tidy : (w : Where) (t : StaticType) (e : Expression) → IsLow w → T w (plain_code w t e)
plain_tidy w t e h = plain_either w t e (Tidy (P w)) (tidy_both _ _ (expr_tidy w 0 e h) (beside_tidy (P w) w t e)) (λ p q i. by (P w) w _ tt)

declared_tidy : (w : Where) (term : Option TypeTerm) (t : StaticType) (e : Expression) → IsLow w → T w (declared_code w term t e)
declared_tidy w None t e h = plain_tidy w t e h
declared_tidy w (Some term) t e h = written_either w t e (Tidy (P w)) (plain_tidy w t e h)
    (tidy_both _ _ (expr_tidy w 0 e h) (converted_tidy (P w) w (typed w e) t))

initializer_tidy : (w : Where) (term : Option TypeTerm) (t : StaticType) (i : Option Initializer) → IsLow w → T w (initializer_code w term t i)
initializer_tidy w term t None h = by (P w) w _ tt
initializer_tidy w term t (Some (region_initializer e u)) h = tidy_both _ _ (expr_tidy w 0 e h) (by (P w) w _ tt)
initializer_tidy w term t (Some (equal_initializer r e)) h = tidy_both _ _ (expr_tidy w 0 e h) (by (P w) w _ tt)
initializer_tidy w term t (Some (by_field_initializer r f e)) h = tidy_both _ _ (expr_tidy w 0 e h) (by (P w) w _ tt)
initializer_tidy w term t (Some (image_initializer s q r f)) h = by (P w) w _ tt
initializer_tidy w term t (Some (preimage_initializer s q r f)) h = by (P w) w _ tt
initializer_tidy w term t (Some (both_initializer q r)) h = by (P w) w _ tt
initializer_tidy w term t (Some (either_initializer q r)) h = by (P w) w _ tt
initializer_tidy w term t (Some (plain_initializer e)) h = declared_tidy w term t e h

stepped_tidy : (w : Where) (n : Name) (steps : Steps) (how : How) → IsLow w →
    let t = (bound w n).static_type in
    T w (expr_code w 0 (access_expr n (before_last steps))
    ⨟ put_code w (stepped_type w.tree w.scope t (before_last steps))
    (slot_behind w 0 t (own_slot w t (bound w n).place) (before_last steps)) (last_field steps) how)
stepped_tidy w n steps how h =
    let t = (bound w n).static_type in
    tidy_both _ _ (expr_tidy w 0 (access_expr n (before_last steps)) h)
    (put_tidy (P w) w (stepped_type w.tree w.scope t (before_last steps))
    (slot_behind w 0 t (own_slot w t (bound w n).place) (before_last steps)) (last_field steps) how)

target_tidy : (w : Where) (n : Name) (steps : Steps) (how : How) → IsLow w → T w (target_code w n steps how)
target_tidy w n no_step how h = set_tidy (P w) w (slot_named w n) how (bound w n).static_type
target_tidy w n (field_step f rest) how h = stepped_tidy w n (field_step f rest) how h
target_tidy w n (at_step e rest) how h = stepped_tidy w n (at_step e rest) how h

right_tidy : (w : Where) (n : Name) (steps : Steps) (how : How) (e : Expression) → IsLow w → T w (right_code w n steps how e)
right_tidy w n steps how.Set e h = tidy_both _ _ (expr_tidy w 0 e h) (converted_tidy (P w) w (typed w e) (typed w (access_expr n steps)))
right_tidy w n steps (how.Reduce o) e h = expr_tidy w 0 e h

-- a call whose result is kept as it comes, in the slot of a place
put_tidy_call : (w : Where) (place : ℕ) (task : Name) (args : Expressions) → IsLow w → T w (put_call w (slot w place) task args)
put_tidy_call w place task args h =
    tidy_both _ _ (exprs_tidy w 0 (params_at w.tree w.scope (task_named w.tree task) args) args h)
    (tidy_call (place_of_task w.tree task) (count args) w.line _ (slot_class w place) (by (P w) w _ tt))

-- ---- launches

varying_apart : (w : Where) (e : Expression) → IsApart (P w) (varying_arg w e)
varying_apart w (access_expr n no_step) = tt
varying_apart w (access_expr n (field_step f rest)) = tt
varying_apart w (access_expr n (at_step e rest)) = tt
varying_apart w (number_expr z v) = tt
varying_apart w (truth_expr b) = tt
varying_apart w (chain_expr first rest) = tt
varying_apart w (prefix_expr signs e) = tt
varying_apart w (call_expr task args) = tt
varying_apart w (convert_expr k e) = tt
varying_apart w (is_null_expr e) = tt
varying_apart w (null_expr k) = tt
varying_apart w (cast_expr k e) = tt
varying_apart w (space_expr k e) = tt

arg_apart : (w : Where) (i : Name) (place : ℕ) (e : Expression) → IsLow w → IsApart (P w) (arg_of w i place e)
arg_apart w i place e h = chosen (is_fixed i e)
  where
    chosen : (b : Bool) → IsApart (P w) (cond b (launch_arg.Keep (kept w place)) (varying_arg w e))
    chosen true = beside_class w (length w.scope.names + place) (omega (arith, h))
    chosen false = varying_apart w e

args_apart : (w : Where) (i : Name) (place : ℕ) (es : Expressions) → IsLow w → AreApart (P w) (args_of w i place es)
args_apart w i place no_expr h = tt
args_apart w i place (an_expr e es) h = (arg_apart w i place e h, args_apart w i (suc place) es h)

kept_tidy : (w : Where) (i : Name) (place : ℕ) (types : List StaticType) (es : Expressions) → IsLow w → T w (kept_code w i place types es)
kept_tidy w i place types no_expr h = tidy_empty
kept_tidy w i place types (an_expr e es) h = tidy_both _ _
    (either (P w) (is_fixed i e) (fixed_code w place (first_type types) e) empty
    (tidy_both _ _ (expr_tidy w 0 e h) (tidy_both _ _ (converted_tidy (P w) w (typed w e) (first_type types)) (by (P w) w _ tt))) tidy_empty)
    (kept_tidy w i (suc place) (other_types types) es h)

launch_tidy : (w inner : Where) (i : Name) (b : Bool) (body : Block) (points : Piece) → inner.params ≡ w.params → T w points → IsLow inner →
    T w (in_one_step w inner i (cond b (one_call body) None) points)
launch_tidy w inner i b body points same h low = either_way (Tidy (P w)) w inner i b body points h
    (λ c is. let own = on_line inner c.line in
    let types = params_at inner.tree inner.scope (task_named inner.tree c.task) c.args in
    tidy_both _ _
    (subst (λ n. Tidy (is_result n) (kept_code own i 0 types c.args)) same (kept_tidy own i 0 types c.args low))
    (by (P w) w _ (subst (λ n. AreApart (is_result n) (args_of own i 0 c.args)) same (args_apart own i 0 c.args low))))

-- ---- scopes grow

arms_names : (tree : Tree) (s : Scope) (arms : Arms) → (scope_after_arms tree s arms).names ≡ s.names
arms_names tree s no_arm = refl
arms_names tree s (an_arm test body rest) = arms_names tree (past s (scope_after_block tree s body)) rest

else_names : (tree : Tree) (s : Scope) (other : Otherwise) → (scope_after_else tree s other).names ≡ s.names
else_names tree s no_else = refl
else_names tree s (else_block body) = refl

grows : (tree : Tree) (s : Scope) (form : Form) → length s.names ≤ length (scope_after tree s form).names
grows tree s (var_form n term i) = omega arith
grows tree s (if_form arms other) =
    let a = ap length (else_names tree (scope_after_arms tree s arms) other) in
    let b = ap length (arms_names tree s arms) in
    omega (arith, a, b)
grows tree s (while_form test body) = omega arith
grows tree s (for_in_form demanded n domain body) = omega arith
grows tree s (for_to_form demanded n from to body) = omega arith
grows tree s (do_form body) = omega arith
grows tree s (fill_form r fields e) = omega arith
grows tree s (assert_form e) = omega arith
grows tree s (print_form alias format args) = omega arith
grows tree s (call_form task args) = omega arith
grows tree s (assign_form n steps how e) = omega arith
grows tree s (return_form e) = omega arith

-- ---- statements

mutual
  form_tidy : (w : Where) (form : Form) → IsLow w → T w (form_code w form)
  form_tidy w (var_form n term i) h =
      begun_either (Tidy (P w)) w (slot w (new_place w)) _
      (tidy_both _ _ (initializer_tidy w term (var_type w.tree w.scope term i) i h) (by (P w) w _ tt))
      (var_type w.tree w.scope term i) i (λ task args is. put_tidy_call w (new_place w) task args h)
  form_tidy w (if_form arms other) h =
      let long = ap length (arms_names w.tree w.scope arms) in
      arms_tidy w w arms (else_code (after_arms w arms) other) refl h h (else_tidy (after_arms w arms) other (omega (arith, h, long)))
  form_tidy w (while_form test body) h = tidy_loop w.line _ _ (expr_tidy w 0 test h) (block_tidy w body h)
  form_tidy w (for_in_form demanded n domain body) h =
      let inner = looping w n (taken_from (typed w domain)) in
      let points = points_code w (is_pointer (taken_from (typed w domain))) (block_code inner body) in
      tidy_both _ _ (expr_tidy w 0 domain h)
      (tidy_both _ _ (by (P w) w _ tt)
      (launch_tidy w inner n (is_space (typed w domain) && is_launch (shape_of w.tree w.scope (for_in_form demanded n domain body))) body points refl
      (tidy_both _ _ (by (P w) w _ tt) (tidy_both _ _ (by (P w) w _ tt)
      (tidy_rounds _ w.line _ (λ to. counter_class w (new_place w) h) (block_tidy inner body (omega (arith, h))))))
      (omega (arith, h))))
  form_tidy w (for_to_form demanded n from to body) h =
      tidy_both _ _ (expr_tidy w 0 from h)
      (tidy_both _ _ (expr_tidy w 0 to h)
      (tidy_both _ _ (by (P w) w _ tt) (tidy_both _ _ (by (P w) w _ tt)
      (tidy_rounds _ w.line _ (λ go. (counter_class w (new_place w) h, beside_class w (new_place w) h))
      (block_tidy (looping w n (arithmetic_type (typed w from) (typed w to))) body (omega (arith, h)))))))
  form_tidy w (do_form body) h = block_tidy w body h
  form_tidy w (fill_form r fields e) h =
      tidy_both _ _ (expr_tidy w 0 e h) (tidy_both _ _ (by (P w) w _ tt)
      (fill_tidy (P w) w (typed w e) (bound w r).static_type (slot_named w r) fields))
  form_tidy w (assert_form e) h = tidy_both _ _ (expr_tidy w 0 e h) (by (P w) w _ tt)
  form_tidy w (print_form alias format args) h = tidy_both _ _ (exprs_tidy w 0 [] args h) (by (P w) w _ tt)
  form_tidy w (call_form task args) h =
      tidy_both _ _ (exprs_tidy w 0 (params_at w.tree w.scope (task_named w.tree task) args) args h)
      (tidy_call (place_of_task w.tree task) (count args) w.line _ tt (by (P w) w _ tt))
  form_tidy w (assign_form n steps how e) h =
      assigned_either (Tidy (P w)) w (slot_named w n) _
      (tidy_both _ _ (right_tidy w n steps how e h) (target_tidy w n steps how h)) n steps how e
      (λ task args is keeps still. put_tidy_call w (bound w n).place task args h)
  form_tidy w (return_form None) h = by (P w) w _ tt
  form_tidy w (return_form (Some e)) h =
      tidy_both _ _ (expr_tidy w 0 e h) (tidy_both _ _ (converted_tidy (P w) w (typed w e) w.result) (by (P w) w _ tt))

  arms_tidy : (own w : Where) (arms : Arms) (other : Piece) → own.params ≡ w.params → IsLow own → IsLow w → T w other →
      T w (arms_code own w arms other)
  arms_tidy own w no_arm other same h k o = o
  arms_tidy own w (an_arm test body rest) other same h k o =
      tidy_both _ _ (subst (λ n. Tidy (is_result n) (expr_code own 0 test)) same (expr_tidy own 0 test h))
      (tidy_branch w.line _ _ (block_tidy w body k) (arms_tidy own (after_arm w body) rest other same h k o))

  else_tidy : (w : Where) (other : Otherwise) → IsLow w → T w (else_code w other)
  else_tidy w no_else h = tidy_empty
  else_tidy w (else_block body) h = block_tidy w body h

  pub block_tidy : (w : Where) (body : Block) → IsLow w → T w (block_code w body)
  block_tidy w no_statement h = tidy_empty
  block_tidy w (then_statement (a_statement line form) rest) h =
      let more = grows w.tree w.scope form in
      tidy_both _ _ (form_tidy (on_line w line) form h) (block_tidy (after_form w form) rest (omega (arith, h, more)))

-- ---- bodies

params_length : (tree : Tree) (all : List Param) (i : ℕ) (ps : List Param) → length (bound_params tree all i ps) ≡ length ps
params_length tree all i [] = refl
params_length tree all i (p ∷ ps) =
    let more = params_length tree all (suc i) ps in
    let whole = length-append (bound_params tree all (suc i) ps) (bound_params tree all i (p ∷ [])) in
    omega (arith, more, whole)

pub bodies_tidy : BodiesAreTidy
bodies_tidy tree t few =
    let w = place_of tree t in
    let names = params_length tree t.params 0 t.params in
    pieces_tidy (is_result (length t.params)) (body_piece tree t)
    (tidy_both _ _ (block_tidy w t.body (omega (arith, names))) (tidy_op instr.Return 0 tt)) few
