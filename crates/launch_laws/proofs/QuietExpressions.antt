-- The code of an expression has no launch.
use Rattle.std.proofs.Common.{◌≡◌, ℕ, suc, List, [], ◌∷◌, Bool, true, false, cond, refl}
use Rattle.lane_kernels.specs.declared.numbers.Width.{Width}
use Rattle.lane_kernels.specs.declared.numbers.Width.TheVariants.{W32, W64}
use Rattle.regent_tree.specs.Evaluation.{first_type, other_types}
use Rattle.regent_tree.specs.Operators.{compares_pointers}
use Rattle.regent_tree.specs.Scopes.{in_scope}
use Rattle.regent_tree.specs.StaticTypes.{task_named, written_pointer}
use Rattle.regent_tree.specs.Syntax.{Name, Expression, number_expr, truth_expr, chain_expr, prefix_expr, call_expr, access_expr, convert_expr, is_null_expr, null_expr, cast_expr, space_expr, Links, no_link, a_link, Expressions, no_expr, an_expr, Steps, no_step, field_step, at_step}
use Rattle.regent_tree.specs.Typing.{are_pointers, operated, params_at, type_of_element, type_of_field, width_of_type}
use Rattle.regent_tree.specs.declared.expression.Arithmetic.{Arithmetic}
use Rattle.regent_tree.specs.declared.expression.Arithmetic.TheVariants as arithmetic
use Rattle.regent_tree.specs.declared.expression.Comparison.{Comparison}
use Rattle.regent_tree.specs.declared.expression.Comparison.TheVariants as comparison
use Rattle.regent_tree.specs.declared.expression.Operator.TheVariants.{And, Compare, Compute, Or}
use Rattle.regent_tree.specs.declared.expression.Sign.{Sign}
use Rattle.regent_tree.specs.declared.expression.Sign.TheVariants.{Minus, Not}
use Rattle.regent_tree.specs.declared.types.NumberTerm.{NumberTerm}
use Rattle.regent_tree.specs.declared.types.NumberTerm.TheVariants as number
use Rattle.regent_tree.specs.declared.typing.StaticType.{StaticType}
use Rattle.regent_tree.specs.declared.typing.StaticType.TheVariants as type
use Rattle.task_code.specs.declared.instr.Instr.TheVariants as instr
use Rattle.code_rules.specs.Expressions.{expr_code, exprs_code, links_code, steps_code}
use Rattle.code_rules.specs.Instructions.{as_number_code, cast_code, comparing, computing, converted_code, element_code, field_code, kept_code, load_code, one, operand_code, sign_code, signs_code, slot_after, standing_code, width_code}
use Rattle.code_rules.specs.Pieces.{Piece, empty}
use Rattle.code_rules.specs.Slots.{Where, bound, own_slot, slot_named, stays, typed}
use Rattle.launch_laws.specs.Launched.{issues_calls}
use Rattle.launch_laws.proofs.Pieces.{Quiet}

pub either_quiet : (b : Bool) (p q : Piece) → Quiet p → Quiet q → Quiet (cond b p q)
either_quiet true p q h k = h
either_quiet false p q h k = k

-- ---- single instructions

standing_quiet : (w : Where) (t : StaticType) → Quiet (standing_code w t)
standing_quiet w (type.Pointer k s args rs) = refl
standing_quiet w _ = tt

operand_quiet : (w : Where) (b : Bool) (t : StaticType) → Quiet (operand_code w b t)
operand_quiet w true t = tt
operand_quiet w false t = standing_quiet w t

width_quiet : (w : Where) (from : StaticType) (v : Width) → Quiet (width_code w from v)
width_quiet w (type.Integer W32) W32 = tt
width_quiet w (type.Integer W64) W64 = tt
width_quiet w _ v = refl

pub converted_quiet : (w : Where) (from to : StaticType) → Quiet (converted_code w from to)
converted_quiet w from (type.Integer v) = width_quiet w from v
converted_quiet w from (type.Index k) = standing_quiet w from
converted_quiet w from (type.Pointer k s args rs) = refl
converted_quiet w from _ = tt

computing_quiet : (o : Arithmetic) (v : Width) → issues_calls (computing o v) ≡ false
computing_quiet arithmetic.Add v = refl
computing_quiet arithmetic.Subtract v = refl
computing_quiet arithmetic.Multiply v = refl
computing_quiet arithmetic.Divide v = refl
computing_quiet arithmetic.Remainder v = refl

comparing_quiet : (c : Comparison) (b : Bool) → issues_calls (comparing c b) ≡ false
comparing_quiet comparison.Equal true = refl
comparing_quiet comparison.Equal false = refl
comparing_quiet comparison.NotEqual true = refl
comparing_quiet comparison.NotEqual false = refl
comparing_quiet comparison.Less b = refl
comparing_quiet comparison.AtMost b = refl
comparing_quiet comparison.Greater b = refl
comparing_quiet comparison.AtLeast b = refl

sign_quiet : (w : Where) (t : StaticType) (s : Sign) → Quiet (sign_code w t s)
sign_quiet w t Not = refl
sign_quiet w t Minus = refl

signs_quiet : (w : Where) (t : StaticType) (ss : List Sign) → Quiet (signs_code w t ss)
signs_quiet w t [] = tt
signs_quiet w t (s ∷ ss) = (signs_quiet w t ss, sign_quiet w t s)

as_number_quiet : (w : Where) (t : NumberTerm) → Quiet (as_number_code w t)
as_number_quiet w number.Int32 = refl
as_number_quiet w number.Int64 = refl
as_number_quiet w (number.Index k) = tt

cast_quiet : (w : Where) (t to : StaticType) → Quiet (cast_code w t to)
cast_quiet w (type.Pointer k s args rs) to = refl
cast_quiet w _ to = refl

field_quiet : (w : Where) (t : StaticType) (s : ℕ) (f : Name) → Quiet (field_code w t s f)
field_quiet w (type.Partition d r q) s f = refl
field_quiet w _ s f = refl

element_quiet : (w : Where) (t : StaticType) (s : ℕ) → Quiet (element_code w t s)
element_quiet w (type.Partition d r p) s = refl
element_quiet w _ s = refl

kept_quiet : (w : Where) (d : ℕ) (t : StaticType) (rest : Steps) → Quiet (kept_code w d t rest)
kept_quiet w d (type.Partition e r p) no_step = tt
kept_quiet w d (type.Partition e r p) (field_step f rest) = refl
kept_quiet w d (type.Partition e r p) (at_step f rest) = refl
kept_quiet w d _ rest = tt

load_quiet : (w : Where) (t : StaticType) (s : ℕ) (steps : Steps) → Quiet (load_code w t s steps)
load_quiet w t s no_step = refl
load_quiet w t s (field_step f rest) = either_quiet (stays t) empty (one w (instr.Load s)) tt refl
load_quiet w t s (at_step e rest) = either_quiet (stays t) empty (one w (instr.Load s)) tt refl

-- ---- expressions

mutual
  pub expr_quiet : (w : Where) (d : ℕ) (e : Expression) → Quiet (expr_code w d e)
  expr_quiet w d (number_expr z v) = refl
  expr_quiet w d (truth_expr b) = refl
  expr_quiet w d (chain_expr first rest) = (expr_quiet w d first, links_quiet w d (typed w first) rest)
  expr_quiet w d (prefix_expr signs e) =
      (expr_quiet w d e, (standing_quiet w (typed w e), signs_quiet w (typed w e) signs))
  expr_quiet w d (call_expr task args) =
      (exprs_quiet w d (params_at w.tree w.scope (task_named w.tree task) args) args, (refl, (refl, refl)))
  expr_quiet w d (access_expr n steps) =
      let t = (bound w n).static_type in
      (load_quiet w t (slot_named w n) steps, steps_quiet w d t (own_slot w t (bound w n).place) steps)
  expr_quiet w d (convert_expr t e) = (expr_quiet w d e, (standing_quiet w (typed w e), as_number_quiet w t))
  expr_quiet w d (is_null_expr e) = (expr_quiet w d e, refl)
  expr_quiet w d (null_expr t) = refl
  expr_quiet w d (cast_expr t e) =
      (expr_quiet w d e, cast_quiet w (typed w e) (written_pointer w.tree (in_scope w.scope) t))
  expr_quiet w d (space_expr k e) = (expr_quiet w d e, refl)

  links_quiet : (w : Where) (d : ℕ) (t : StaticType) (ls : Links) → Quiet (links_code w d t ls)
  links_quiet w d t no_link = tt
  links_quiet w d t (a_link Or e rest) = ((λ to. refl, expr_quiet w d e), links_quiet w d type.Truth rest)
  links_quiet w d t (a_link And e rest) = ((λ to. refl, expr_quiet w d e), links_quiet w d type.Truth rest)
  links_quiet w d t (a_link (Compare c) e rest) =
      let u = typed w e in
      let a = operand_quiet w (compares_pointers (Compare c) t u) t in
      let f = operand_quiet w (compares_pointers (Compare c) t u) u in
      (a, (expr_quiet w d e, (f, (comparing_quiet c (are_pointers t u), links_quiet w d (operated (Compare c) t u) rest))))
  links_quiet w d t (a_link (Compute c) e rest) =
      let u = typed w e in
      let a = operand_quiet w (compares_pointers (Compute c) t u) t in
      let f = operand_quiet w (compares_pointers (Compute c) t u) u in
      let g = computing_quiet c (width_of_type (operated (Compute c) t u)) in
      (a, (expr_quiet w d e, (f, (g, links_quiet w d (operated (Compute c) t u) rest))))

  pub exprs_quiet : (w : Where) (d : ℕ) (types : List StaticType) (es : Expressions) → Quiet (exprs_code w d types es)
  exprs_quiet w d types no_expr = tt
  exprs_quiet w d types (an_expr e es) =
      (expr_quiet w d e, (converted_quiet w (typed w e) (first_type types), exprs_quiet w d (other_types types) es))

  steps_quiet : (w : Where) (d : ℕ) (t : StaticType) (s : ℕ) (steps : Steps) → Quiet (steps_code w d t s steps)
  steps_quiet w d t s no_step = tt
  steps_quiet w d t s (field_step f rest) = (field_quiet w t s f, steps_quiet w d (type_of_field w.tree t f) 0 rest)
  steps_quiet w d t s (at_step e rest) =
      let more = steps_quiet w (suc d) (type_of_element w.scope t e) (slot_after w d t s) rest in
      (expr_quiet w d e, (standing_quiet w (typed w e), (element_quiet w t s, (kept_quiet w d t rest, more))))
