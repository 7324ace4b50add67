-- The code of an expression names low slots: those of names in scope, and of children in use by their depth.
use Rattle.std.proofs.Common.{◌≤◌, ◌+◌, ◌*◌, ℕ, suc, List, [], ◌∷◌, length, arith, Bool, true, false}
use Rattle.lane_kernels.specs.declared.numbers.Width.{Width}
use Rattle.lane_kernels.specs.declared.numbers.Width.TheVariants.{W32, W64}
use Rattle.regent_tree.specs.Evaluation.{first_type, other_types}
use Rattle.regent_tree.specs.Limits.{nodes, number_of_nodes, parts_of_expression, parts_of_links, parts_of_expressions, parts_of_steps, parts_of_pointer}
use Rattle.regent_tree.specs.Operators.{compares_pointers}
use Rattle.regent_tree.specs.Scopes.{in_scope}
use Rattle.regent_tree.specs.StaticTypes.{task_named, written_pointer}
use Rattle.regent_tree.specs.Syntax.{Name, Expression, number_expr, truth_expr, chain_expr, prefix_expr, call_expr, access_expr, convert_expr, is_null_expr, null_expr, cast_expr, space_expr, Links, no_link, a_link, Expressions, no_expr, an_expr, Steps, no_step, field_step, at_step}
use Rattle.regent_tree.specs.Typing.{are_pointers, operated, params_at, reaches_of, type_of_element, type_of_field, width_of_type}
use Rattle.regent_tree.specs.declared.expression.Arithmetic.{Arithmetic}
use Rattle.regent_tree.specs.declared.expression.Arithmetic.TheVariants as arithmetic
use Rattle.regent_tree.specs.declared.expression.Comparison.{Comparison}
use Rattle.regent_tree.specs.declared.expression.Comparison.TheVariants as comparison
use Rattle.regent_tree.specs.declared.expression.Operator.TheVariants.{And, Compare, Compute, Or}
use Rattle.regent_tree.specs.declared.expression.Sign.{Sign}
use Rattle.regent_tree.specs.declared.expression.Sign.TheVariants.{Minus, Not}
use Rattle.regent_tree.specs.declared.types.NumberTerm.{NumberTerm}
use Rattle.regent_tree.specs.declared.types.NumberTerm.TheVariants as number
use Rattle.regent_tree.specs.declared.typing.StaticType.{StaticType}
use Rattle.regent_tree.specs.declared.typing.StaticType.TheVariants as type
use Rattle.task_code.specs.declared.instr.Instr.TheVariants as instr
use Rattle.code_rules.specs.Expressions.{expr_code, exprs_code, links_code, steps_code}
use Rattle.code_rules.specs.Instructions.{as_number_code, cast_code, comparing, computing, converted_code, element_code, field_code, kept_code, load_code, one, operand_code, sign_code, signs_code, slot_after, standing_code, width_code}
use Rattle.code_rules.specs.Pieces.{empty}
use Rattle.code_rules.specs.Slots.{Where, bound, own_slot, slot_named, spare, stays, typed}
use Rattle.code_rules.specs.Used.{slots_used}
use Rattle.code_rules.proofs.ExpressionSizes.{both_nodes}
use Rattle.code_rules.proofs.LowSlots.{Fits, IsLow, Placed, either_fits, free, named_low, own_low, place_named, reaches_low, result_low, spare_low}

-- ---- single instructions

standing_fits : (m : ℕ) (w : Where) (t : StaticType) → Fits m (standing_code w t)
standing_fits m w (type.Integer v) = tt
standing_fits m w type.Truth = tt
standing_fits m w (type.Index k) = tt
standing_fits m w (type.Pointer k s args rs) = free m
standing_fits m w (type.Ispace k) = tt
standing_fits m w (type.Region k s args t) = tt
standing_fits m w (type.Partition d r p) = tt
standing_fits m w type.Nothing = tt
standing_fits m w type.Unknown = tt

operand_fits : (m : ℕ) (w : Where) (b : Bool) (t : StaticType) → Fits m (operand_code w b t)
operand_fits m w true t = tt
operand_fits m w false t = standing_fits m w t

width_fits : (m : ℕ) (w : Where) (from : StaticType) (v : Width) → Fits m (width_code w from v)
width_fits m w (type.Integer W32) W32 = tt
width_fits m w (type.Integer W32) W64 = free m
width_fits m w (type.Integer W64) W32 = free m
width_fits m w (type.Integer W64) W64 = tt
width_fits m w type.Truth v = free m
width_fits m w (type.Index k) v = free m
width_fits m w (type.Pointer k s args rs) v = free m
width_fits m w (type.Ispace k) v = free m
width_fits m w (type.Region k s args t) v = free m
width_fits m w (type.Partition d r p) v = free m
width_fits m w type.Nothing v = free m
width_fits m w type.Unknown v = free m

pub converted_fits : (m : ℕ) (w : Where) (from to : StaticType) → Fits m (converted_code w from to)
converted_fits m w from (type.Integer v) = width_fits m w from v
converted_fits m w from type.Truth = tt
converted_fits m w from (type.Index k) = standing_fits m w from
converted_fits m w from (type.Pointer k s args rs) = free m
converted_fits m w from (type.Ispace k) = tt
converted_fits m w from (type.Region k s args t) = tt
converted_fits m w from (type.Partition d r p) = tt
converted_fits m w from type.Nothing = tt
converted_fits m w from type.Unknown = tt

computing_free : (m : ℕ) (o : Arithmetic) (v : Width) → slots_used (computing o v) ≤ 3 * m + 3
computing_free m arithmetic.Add v = free m
computing_free m arithmetic.Subtract v = free m
computing_free m arithmetic.Multiply v = free m
computing_free m arithmetic.Divide v = free m
computing_free m arithmetic.Remainder v = free m

comparing_free : (m : ℕ) (c : Comparison) (b : Bool) → slots_used (comparing c b) ≤ 3 * m + 3
comparing_free m comparison.Equal true = free m
comparing_free m comparison.Equal false = free m
comparing_free m comparison.NotEqual true = free m
comparing_free m comparison.NotEqual false = free m
comparing_free m comparison.Less b = free m
comparing_free m comparison.AtMost b = free m
comparing_free m comparison.Greater b = free m
comparing_free m comparison.AtLeast b = free m

sign_fits : (m : ℕ) (w : Where) (t : StaticType) (s : Sign) → Fits m (sign_code w t s)
sign_fits m w t Not = free m
sign_fits m w t Minus = free m

signs_fits : (m : ℕ) (w : Where) (t : StaticType) (ss : List Sign) → Fits m (signs_code w t ss)
signs_fits m w t [] = tt
signs_fits m w t (s ∷ ss) = (signs_fits m w t ss, sign_fits m w t s)

as_number_fits : (m : ℕ) (w : Where) (t : NumberTerm) → Fits m (as_number_code w t)
as_number_fits m w number.Int32 = free m
as_number_fits m w number.Int64 = free m
as_number_fits m w (number.Index k) = tt

cast_fits : (m : ℕ) (w : Where) (t to : StaticType) → Placed m w.scope.names → Fits m (cast_code w t to)
cast_fits m w (type.Integer v) to p = reaches_low m w 0 (reaches_of to) p (omega arith)
cast_fits m w type.Truth to p = reaches_low m w 0 (reaches_of to) p (omega arith)
cast_fits m w (type.Index k) to p = reaches_low m w 0 (reaches_of to) p (omega arith)
cast_fits m w (type.Pointer k s args rs) to p = reaches_low m w 0 (reaches_of to) p (omega arith)
cast_fits m w (type.Ispace k) to p = reaches_low m w 0 (reaches_of to) p (omega arith)
cast_fits m w (type.Region k s args t) to p = reaches_low m w 0 (reaches_of to) p (omega arith)
cast_fits m w (type.Partition d r q) to p = reaches_low m w 0 (reaches_of to) p (omega arith)
cast_fits m w type.Nothing to p = reaches_low m w 0 (reaches_of to) p (omega arith)
cast_fits m w type.Unknown to p = reaches_low m w 0 (reaches_of to) p (omega arith)

field_fits : (m : ℕ) (w : Where) (t : StaticType) (s : ℕ) (f : Name) → Placed m w.scope.names → IsLow m s →
    Fits m (field_code w t s f)
field_fits m w (type.Integer v) s f p l = reaches_low m w s (reaches_of (type.Integer v)) p l
field_fits m w type.Truth s f p l = reaches_low m w s (reaches_of type.Truth) p l
field_fits m w (type.Index k) s f p l = reaches_low m w s (reaches_of (type.Index k)) p l
field_fits m w (type.Pointer k sp args rs) s f p l = reaches_low m w s (reaches_of (type.Pointer k sp args rs)) p l
field_fits m w (type.Ispace k) s f p l = reaches_low m w s (reaches_of (type.Ispace k)) p l
field_fits m w (type.Region k sp args t) s f p l = reaches_low m w s (reaches_of (type.Region k sp args t)) p l
field_fits m w (type.Partition d r q) s f p l = l
field_fits m w type.Nothing s f p l = reaches_low m w s (reaches_of type.Nothing) p l
field_fits m w type.Unknown s f p l = reaches_low m w s (reaches_of type.Unknown) p l

element_fits : (m : ℕ) (w : Where) (t : StaticType) (s : ℕ) → IsLow m s → Fits m (element_code w t s)
element_fits m w (type.Integer v) s l = l
element_fits m w type.Truth s l = l
element_fits m w (type.Index k) s l = l
element_fits m w (type.Pointer k sp args rs) s l = l
element_fits m w (type.Ispace k) s l = l
element_fits m w (type.Region k sp args t) s l = l
element_fits m w (type.Partition d r p) s l = l
element_fits m w type.Nothing s l = l
element_fits m w type.Unknown s l = l

kept_fits : (m : ℕ) (w : Where) (d : ℕ) (t : StaticType) (rest : Steps) → IsLow m (spare w d) →
    Fits m (kept_code w d t rest)
kept_fits m w d (type.Partition e r p) no_step l = tt
kept_fits m w d (type.Partition e r p) (field_step f rest) l = l
kept_fits m w d (type.Partition e r p) (at_step f rest) l = l
kept_fits m w d (type.Integer v) rest l = tt
kept_fits m w d type.Truth rest l = tt
kept_fits m w d (type.Index k) rest l = tt
kept_fits m w d (type.Pointer k sp args rs) rest l = tt
kept_fits m w d (type.Ispace k) rest l = tt
kept_fits m w d (type.Region k sp args t) rest l = tt
kept_fits m w d type.Nothing rest l = tt
kept_fits m w d type.Unknown rest l = tt

pub after_low : (m : ℕ) (w : Where) (d : ℕ) (t : StaticType) (s : ℕ) → IsLow m s → IsLow m (spare w d) →
    IsLow m (slot_after w d t s)
after_low m w d (type.Partition e r p) s l h = h
after_low m w d (type.Integer v) s l h = l
after_low m w d type.Truth s l h = l
after_low m w d (type.Index k) s l h = l
after_low m w d (type.Pointer k sp args rs) s l h = l
after_low m w d (type.Ispace k) s l h = l
after_low m w d (type.Region k sp args t) s l h = l
after_low m w d type.Nothing s l h = l
after_low m w d type.Unknown s l h = l

load_fits : (m : ℕ) (w : Where) (t : StaticType) (s : ℕ) (steps : Steps) → IsLow m s → Fits m (load_code w t s steps)
load_fits m w t s no_step l = l
load_fits m w t s (field_step f rest) l = either_fits m (stays t) empty (one w (instr.Load s)) tt l
load_fits m w t s (at_step e rest) l = either_fits m (stays t) empty (one w (instr.Load s)) tt l

-- ---- expressions

mutual
  pub expr_fits : (m : ℕ) (w : Where) (d : ℕ) (e : Expression) → Placed m w.scope.names →
      length w.scope.names + d + number_of_nodes (parts_of_expression e) ≤ m → Fits m (expr_code w d e)
  expr_fits m w d (number_expr z v) p h = free m
  expr_fits m w d (truth_expr b) p h = free m
  expr_fits m w d (chain_expr first rest) p h =
      let n = both_nodes (parts_of_expression first) (parts_of_links rest) in (
        expr_fits m w d first p (omega (arith, h, n)),
        links_fits m w d (typed w first) rest p (omega (arith, h, n)),
      )
  expr_fits m w d (prefix_expr signs e) p h =
      let n = both_nodes (nodes signs) (parts_of_expression e) in (
        expr_fits m w d e p (omega (arith, h, n)),
        (standing_fits m w (typed w e), signs_fits m w (typed w e) signs),
      )
  expr_fits m w d (call_expr task args) p h =
      let l = result_low m w d (omega (arith, h)) in (
        exprs_fits m w d (params_at w.tree w.scope (task_named w.tree task) args) args p (omega (arith, h)),
        (free m, (l, l)),
      )
  expr_fits m w d (access_expr n steps) p h =
      let t = (bound w n).static_type in
      let place = (bound w n).place in (
        load_fits m w t (slot_named w n) steps (named_low m w n p),
        steps_fits m w d t (own_slot w t place) steps p
            (own_low m w t place (place_named m w.scope.names n p)) (omega (arith, h)),
      )
  expr_fits m w d (convert_expr t e) p h = (
    expr_fits m w d e p (omega (arith, h)),
    (standing_fits m w (typed w e), as_number_fits m w t),
  )
  expr_fits m w d (is_null_expr e) p h = (expr_fits m w d e p (omega (arith, h)), free m)
  expr_fits m w d (null_expr t) p h = free m
  expr_fits m w d (cast_expr t e) p h =
      let n = both_nodes (parts_of_pointer t) (parts_of_expression e) in (
        expr_fits m w d e p (omega (arith, h, n)),
        cast_fits m w (typed w e) (written_pointer w.tree (in_scope w.scope) t) p,
      )
  expr_fits m w d (space_expr k e) p h = (expr_fits m w d e p (omega (arith, h)), free m)

  links_fits : (m : ℕ) (w : Where) (d : ℕ) (t : StaticType) (ls : Links) → Placed m w.scope.names →
      length w.scope.names + d + number_of_nodes (parts_of_links ls) ≤ m → Fits m (links_code w d t ls)
  links_fits m w d t no_link p h = tt
  links_fits m w d t (a_link Or e rest) p h =
      let n = both_nodes (parts_of_expression e) (parts_of_links rest) in (
        (λ to. free m, expr_fits m w d e p (omega (arith, h, n))),
        links_fits m w d type.Truth rest p (omega (arith, h, n)),
      )
  links_fits m w d t (a_link And e rest) p h =
      let n = both_nodes (parts_of_expression e) (parts_of_links rest) in (
        (λ to. free m, expr_fits m w d e p (omega (arith, h, n))),
        links_fits m w d type.Truth rest p (omega (arith, h, n)),
      )
  links_fits m w d t (a_link (Compare c) e rest) p h =
      let u = typed w e in
      let n = both_nodes (parts_of_expression e) (parts_of_links rest) in
      let a = operand_fits m w (compares_pointers (Compare c) t u) t in
      let b = expr_fits m w d e p (omega (arith, h, n)) in
      let f = operand_fits m w (compares_pointers (Compare c) t u) u in
      let g = comparing_free m c (are_pointers t u) in
      let more = links_fits m w d (operated (Compare c) t u) rest p (omega (arith, h, n)) in
      (a, (b, (f, (g, more))))
  links_fits m w d t (a_link (Compute c) e rest) p h =
      let u = typed w e in
      let n = both_nodes (parts_of_expression e) (parts_of_links rest) in
      let a = operand_fits m w (compares_pointers (Compute c) t u) t in
      let b = expr_fits m w d e p (omega (arith, h, n)) in
      let f = operand_fits m w (compares_pointers (Compute c) t u) u in
      let g = computing_free m c (width_of_type (operated (Compute c) t u)) in
      let more = links_fits m w d (operated (Compute c) t u) rest p (omega (arith, h, n)) in
      (a, (b, (f, (g, more))))

  pub exprs_fits : (m : ℕ) (w : Where) (d : ℕ) (types : List StaticType) (es : Expressions) → Placed m w.scope.names →
      length w.scope.names + d + number_of_nodes (parts_of_expressions es) ≤ m → Fits m (exprs_code w d types es)
  exprs_fits m w d types no_expr p h = tt
  exprs_fits m w d types (an_expr e es) p h =
      let n = both_nodes (parts_of_expression e) (parts_of_expressions es) in
      let more = exprs_fits m w d (other_types types) es p (omega (arith, h, n)) in (
        expr_fits m w d e p (omega (arith, h, n)),
        (converted_fits m w (typed w e) (first_type types), more),
      )

  steps_fits : (m : ℕ) (w : Where) (d : ℕ) (t : StaticType) (s : ℕ) (steps : Steps) → Placed m w.scope.names →
      IsLow m s → length w.scope.names + d + number_of_nodes (parts_of_steps steps) ≤ m →
      Fits m (steps_code w d t s steps)
  steps_fits m w d t s no_step p l h = tt
  steps_fits m w d t s (field_step f rest) p l h = (
    field_fits m w t s f p l,
    steps_fits m w d (type_of_field w.tree t f) 0 rest p (omega arith) (omega (arith, h)),
  )
  steps_fits m w d t s (at_step e rest) p l h =
      let n = both_nodes (parts_of_expression e) (parts_of_steps rest) in
      let kept = spare_low m w d (omega (arith, h)) in
      let a = expr_fits m w d e p (omega (arith, h, n)) in
      let b = standing_fits m w (typed w e) in
      let c = element_fits m w t s l in
      let f = kept_fits m w d t rest kept in
      let more = steps_fits m w (suc d) (type_of_element w.scope t e) (slot_after w d t s) rest p
      (after_low m w d t s l kept) (omega (arith, h, n)) in
      (a, (b, (c, (f, more))))
