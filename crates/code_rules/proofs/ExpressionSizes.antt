-- The code of each construct has at most 16 instructions for each of its nodes.
use Rattle.std.proofs.Common.{◌≡◌, ◌≤◌, ◌+◌, ◌*◌, ℕ, suc, List, [], ◌∷◌, ◌++◌, length, refl, arith, Bool, true, false}
use Rattle.regent_tree.specs.Limits.{Part, node, literal, counted, nodes, number_of_nodes, parts_of_expression, parts_of_links, parts_of_expressions, parts_of_steps, parts_of_pointer}
use Rattle.regent_tree.specs.Syntax.{Name, Expression, number_expr, truth_expr, chain_expr, prefix_expr, call_expr, access_expr, convert_expr, is_null_expr, null_expr, cast_expr, space_expr, Links, no_link, a_link, Expressions, no_expr, an_expr, Steps, no_step, field_step, at_step}
use Rattle.regent_tree.specs.Evaluation.{first_type, other_types}
use Rattle.regent_tree.specs.Operators.{compares_pointers}
use Rattle.regent_tree.specs.Typing.{operated, type_of_element, type_of_field, params_at}
use Rattle.regent_tree.specs.StaticTypes.{task_named, written_pointer}
use Rattle.regent_tree.specs.Scopes.{in_scope}
use Rattle.regent_tree.specs.declared.expression.Operator.TheVariants.{And, Compare, Compute, Or}
use Rattle.regent_tree.specs.declared.expression.Sign.{Sign}
use Rattle.regent_tree.specs.declared.expression.Sign.TheVariants.{Minus, Not}
use Rattle.regent_tree.specs.declared.types.NumberTerm.{NumberTerm}
use Rattle.regent_tree.specs.declared.types.NumberTerm.TheVariants as number
use Rattle.regent_tree.specs.declared.typing.StaticType.{StaticType}
use Rattle.regent_tree.specs.declared.typing.StaticType.TheVariants as type
use Rattle.code_rules.specs.Expressions.{expr_code, exprs_code, links_code, steps_code}
use Rattle.lane_kernels.specs.declared.numbers.Width.{Width}
use Rattle.lane_kernels.specs.declared.numbers.Width.TheVariants.{W32, W64}
use Rattle.code_rules.specs.Instructions.{as_number_code, cast_code, converted_code, element_code, field_code, kept_code, load_code, operand_code, sign_code, signs_code, slot_after, standing_code, width_code}
use Rattle.code_rules.specs.Slots.{Where, bound, own_slot, slot_named, typed}
use Rattle.code_rules.proofs.Sizes.{size}

pub both_nodes : (ps qs : List Part) → number_of_nodes (ps ++ qs) ≡ number_of_nodes ps + number_of_nodes qs
both_nodes [] qs = omega arith
both_nodes (node ∷ ps) qs = let more = both_nodes ps qs in omega (arith, more)
both_nodes (literal z v ∷ ps) qs = let more = both_nodes ps qs in omega (arith, more)
both_nodes (counted what n ∷ ps) qs = let more = both_nodes ps qs in omega (arith, more)

pub all_nodes : {A : Type 0} (xs : List A) → number_of_nodes (nodes xs) ≡ length xs
all_nodes [] = refl
all_nodes (x ∷ xs) = let more = all_nodes xs in omega (arith, more)

-- ---- single instructions

standing_size : (w : Where) (t : StaticType) → size (standing_code w t) ≤ 1
standing_size w (type.Integer v) = omega arith
standing_size w type.Truth = omega arith
standing_size w (type.Index k) = omega arith
standing_size w (type.Pointer k s args rs) = omega arith
standing_size w (type.Ispace k) = omega arith
standing_size w (type.Region k s args t) = omega arith
standing_size w (type.Partition d r p) = omega arith
standing_size w type.Nothing = omega arith
standing_size w type.Unknown = omega arith

operand_size : (w : Where) (b : Bool) (t : StaticType) → size (operand_code w b t) ≤ 1
operand_size w true t = omega arith
operand_size w false t = standing_size w t

width_size : (w : Where) (from : StaticType) (v : Width) → size (width_code w from v) ≤ 1
width_size w (type.Integer W32) W32 = omega arith
width_size w (type.Integer W32) W64 = omega arith
width_size w (type.Integer W64) W32 = omega arith
width_size w (type.Integer W64) W64 = omega arith
width_size w type.Truth v = omega arith
width_size w (type.Index k) v = omega arith
width_size w (type.Pointer k s args rs) v = omega arith
width_size w (type.Ispace k) v = omega arith
width_size w (type.Region k s args t) v = omega arith
width_size w (type.Partition d r p) v = omega arith
width_size w type.Nothing v = omega arith
width_size w type.Unknown v = omega arith

pub converted_size : (w : Where) (from to : StaticType) → size (converted_code w from to) ≤ 1
converted_size w from (type.Integer v) = width_size w from v
converted_size w from type.Truth = omega arith
converted_size w from (type.Index k) = standing_size w from
converted_size w from (type.Pointer k s args rs) = omega arith
converted_size w from (type.Ispace k) = omega arith
converted_size w from (type.Region k s args t) = omega arith
converted_size w from (type.Partition d r p) = omega arith
converted_size w from type.Nothing = omega arith
converted_size w from type.Unknown = omega arith

sign_size : (w : Where) (t : StaticType) (s : Sign) → size (sign_code w t s) ≡ 1
sign_size w t Not = refl
sign_size w t Minus = refl

signs_size : (w : Where) (t : StaticType) (ss : List Sign) → size (signs_code w t ss) ≡ length ss
signs_size w t [] = refl
signs_size w t (s ∷ ss) =
    let more = signs_size w t ss in
    let here = sign_size w t s in
    omega (arith, more, here)

as_number_size : (w : Where) (t : NumberTerm) → size (as_number_code w t) ≤ 1
as_number_size w number.Int32 = omega arith
as_number_size w number.Int64 = omega arith
as_number_size w (number.Index k) = omega arith

cast_size : (w : Where) (t to : StaticType) → size (cast_code w t to) ≡ 1
cast_size w (type.Integer v) to = refl
cast_size w type.Truth to = refl
cast_size w (type.Index k) to = refl
cast_size w (type.Pointer k s args rs) to = refl
cast_size w (type.Ispace k) to = refl
cast_size w (type.Region k s args t) to = refl
cast_size w (type.Partition d r p) to = refl
cast_size w type.Nothing to = refl
cast_size w type.Unknown to = refl

field_size : (w : Where) (t : StaticType) (s : ℕ) (f : Name) → size (field_code w t s f) ≡ 1
field_size w (type.Integer v) s f = refl
field_size w type.Truth s f = refl
field_size w (type.Index k) s f = refl
field_size w (type.Pointer k sp args rs) s f = refl
field_size w (type.Ispace k) s f = refl
field_size w (type.Region k sp args t) s f = refl
field_size w (type.Partition d r p) s f = refl
field_size w type.Nothing s f = refl
field_size w type.Unknown s f = refl

element_size : (w : Where) (t : StaticType) (s : ℕ) → size (element_code w t s) ≡ 1
element_size w (type.Integer v) s = refl
element_size w type.Truth s = refl
element_size w (type.Index k) s = refl
element_size w (type.Pointer k sp args rs) s = refl
element_size w (type.Ispace k) s = refl
element_size w (type.Region k sp args t) s = refl
element_size w (type.Partition d r p) s = refl
element_size w type.Nothing s = refl
element_size w type.Unknown s = refl

kept_size : (w : Where) (d : ℕ) (t : StaticType) (rest : Steps) → size (kept_code w d t rest) ≤ 1
kept_size w d (type.Partition e r p) no_step = omega arith
kept_size w d (type.Partition e r p) (field_step f rest) = omega arith
kept_size w d (type.Partition e r p) (at_step f rest) = omega arith
kept_size w d (type.Integer v) rest = omega arith
kept_size w d type.Truth rest = omega arith
kept_size w d (type.Index k) rest = omega arith
kept_size w d (type.Pointer k sp args rs) rest = omega arith
kept_size w d (type.Ispace k) rest = omega arith
kept_size w d (type.Region k sp args t) rest = omega arith
kept_size w d type.Nothing rest = omega arith
kept_size w d type.Unknown rest = omega arith

load_size : (w : Where) (t : StaticType) (s : ℕ) (steps : Steps) → size (load_code w t s steps) ≤ 1
load_size w (type.Integer v) s no_step = omega arith
load_size w (type.Integer v) s (field_step f rest) = omega arith
load_size w (type.Integer v) s (at_step e rest) = omega arith
load_size w type.Truth s no_step = omega arith
load_size w type.Truth s (field_step f rest) = omega arith
load_size w type.Truth s (at_step e rest) = omega arith
load_size w (type.Index k) s no_step = omega arith
load_size w (type.Index k) s (field_step f rest) = omega arith
load_size w (type.Index k) s (at_step e rest) = omega arith
load_size w (type.Pointer k sp args rs) s no_step = omega arith
load_size w (type.Pointer k sp args rs) s (field_step f rest) = omega arith
load_size w (type.Pointer k sp args rs) s (at_step e rest) = omega arith
load_size w (type.Ispace k) s no_step = omega arith
load_size w (type.Ispace k) s (field_step f rest) = omega arith
load_size w (type.Ispace k) s (at_step e rest) = omega arith
load_size w (type.Region k sp args t) s no_step = omega arith
load_size w (type.Region k sp args t) s (field_step f rest) = omega arith
load_size w (type.Region k sp args t) s (at_step e rest) = omega arith
load_size w (type.Partition d r p) s no_step = omega arith
load_size w (type.Partition d r p) s (field_step f rest) = omega arith
load_size w (type.Partition d r p) s (at_step e rest) = omega arith
load_size w type.Nothing s no_step = omega arith
load_size w type.Nothing s (field_step f rest) = omega arith
load_size w type.Nothing s (at_step e rest) = omega arith
load_size w type.Unknown s no_step = omega arith
load_size w type.Unknown s (field_step f rest) = omega arith
load_size w type.Unknown s (at_step e rest) = omega arith

-- ---- expressions

mutual
  pub expr_size : (w : Where) (d : ℕ) (e : Expression) →
      size (expr_code w d e) + 8 ≤ 16 * number_of_nodes (parts_of_expression e)
  expr_size w d (number_expr z v) = omega arith
  expr_size w d (truth_expr b) = omega arith
  expr_size w d (chain_expr first rest) =
      let a = expr_size w d first in
      let b = links_size w d (typed w first) rest in
      let n = both_nodes (parts_of_expression first) (parts_of_links rest) in
      omega (arith, a, b, n)
  expr_size w d (prefix_expr signs e) =
      let a = expr_size w d e in
      let b = standing_size w (typed w e) in
      let c = signs_size w (typed w e) signs in
      let n = both_nodes (nodes signs) (parts_of_expression e) in
      let m = all_nodes signs in
      omega (arith, a, b, c, n, m)
  expr_size w d (call_expr task args) =
      let a = exprs_size w d (params_at w.tree w.scope (task_named w.tree task) args) args in
      omega (arith, a)
  expr_size w d (access_expr n steps) =
      let t = (bound w n).static_type in
      let a = load_size w t (slot_named w n) steps in
      let b = steps_size w d t (own_slot w t (bound w n).place) steps in
      omega (arith, a, b)
  expr_size w d (convert_expr t e) =
      let a = expr_size w d e in
      let b = standing_size w (typed w e) in
      let c = as_number_size w t in
      omega (arith, a, b, c)
  expr_size w d (is_null_expr e) = let a = expr_size w d e in omega (arith, a)
  expr_size w d (null_expr t) = omega arith
  expr_size w d (cast_expr t e) =
      let a = expr_size w d e in
      let b = cast_size w (typed w e) (written_pointer w.tree (in_scope w.scope) t) in
      let n = both_nodes (parts_of_pointer t) (parts_of_expression e) in
      omega (arith, a, b, n)
  expr_size w d (space_expr k e) = let a = expr_size w d e in omega (arith, a)

  links_size : (w : Where) (d : ℕ) (t : StaticType) (ls : Links) →
      size (links_code w d t ls) ≤ 16 * number_of_nodes (parts_of_links ls)
  links_size w d t no_link = omega arith
  links_size w d t (a_link Or e rest) =
      let a = expr_size w d e in
      let b = links_size w d type.Truth rest in
      let n = both_nodes (parts_of_expression e) (parts_of_links rest) in
      omega (arith, a, b, n)
  links_size w d t (a_link And e rest) =
      let a = expr_size w d e in
      let b = links_size w d type.Truth rest in
      let n = both_nodes (parts_of_expression e) (parts_of_links rest) in
      omega (arith, a, b, n)
  links_size w d t (a_link (Compare c) e rest) =
      let o = Compare c in
      let a = expr_size w d e in
      let f = operand_size w (compares_pointers o t (typed w e)) t in
      let g = operand_size w (compares_pointers o t (typed w e)) (typed w e) in
      let b = links_size w d (operated o t (typed w e)) rest in
      let n = both_nodes (parts_of_expression e) (parts_of_links rest) in
      omega (arith, a, b, f, g, n)
  links_size w d t (a_link (Compute c) e rest) =
      let o = Compute c in
      let a = expr_size w d e in
      let f = operand_size w (compares_pointers o t (typed w e)) t in
      let g = operand_size w (compares_pointers o t (typed w e)) (typed w e) in
      let b = links_size w d (operated o t (typed w e)) rest in
      let n = both_nodes (parts_of_expression e) (parts_of_links rest) in
      omega (arith, a, b, f, g, n)

  pub exprs_size : (w : Where) (d : ℕ) (types : List StaticType) (es : Expressions) →
      size (exprs_code w d types es) ≤ 16 * number_of_nodes (parts_of_expressions es)
  exprs_size w d types no_expr = omega arith
  exprs_size w d types (an_expr e es) =
      let a = expr_size w d e in
      let c = converted_size w (typed w e) (first_type types) in
      let b = exprs_size w d (other_types types) es in
      let n = both_nodes (parts_of_expression e) (parts_of_expressions es) in
      omega (arith, a, b, c, n)

  pub steps_size : (w : Where) (d : ℕ) (t : StaticType) (s : ℕ) (steps : Steps) →
      size (steps_code w d t s steps) ≤ 16 * number_of_nodes (parts_of_steps steps)
  steps_size w d t s no_step = omega arith
  steps_size w d t s (field_step f rest) =
      let a = field_size w t s f in
      let b = steps_size w d (type_of_field w.tree t f) 0 rest in
      omega (arith, a, b)
  steps_size w d t s (at_step e rest) =
      let a = expr_size w d e in
      let c = standing_size w (typed w e) in
      let f = element_size w t s in
      let g = kept_size w d t rest in
      let b = steps_size w (suc d) (type_of_element w.scope t e) (slot_after w d t s) rest in
      let n = both_nodes (parts_of_expression e) (parts_of_steps rest) in
      omega (arith, a, b, c, f, g, n)
