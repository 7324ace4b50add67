-- The code of expressions. A value is left on the stack.
use Rattle.std.specs.Prelude.{ℕ, suc, negsuc, List}
use Rattle.regent_tree.specs.declared.expression.Operator.TheVariants.{Or, And}
use Rattle.regent_tree.specs.declared.typing.StaticType.{StaticType}
use Rattle.regent_tree.specs.declared.typing.StaticType.TheVariants.{Truth as truth_type}
use Rattle.regent_tree.specs.Syntax.{Expression, number_expr, truth_expr, chain_expr, prefix_expr, call_expr, access_expr, convert_expr, is_null_expr, null_expr, cast_expr, space_expr, Links, no_link, a_link, Expressions, no_expr, an_expr, Steps, no_step, field_step, at_step}
use Rattle.regent_tree.specs.Values.{kept_truth}
use Rattle.regent_tree.specs.StaticTypes.{task_named, written_pointer}
use Rattle.regent_tree.specs.Scopes.{in_scope}
use Rattle.regent_tree.specs.Typing.{operated, type_of_field, type_of_element, params_at}
use Rattle.regent_tree.specs.Evaluation.{first_type, other_types}
use Rattle.regent_tree.specs.Operators.{compares_pointers}
use Rattle.task_code.specs.declared.instr.Instr.TheVariants as instr
use Rattle.code_rules.specs.Pieces.{Piece, empty, ◌⨟◌, over}
use Rattle.code_rules.specs.Slots.{Where, typed, result, spare, bound, slot_named, own_slot}
use Rattle.code_rules.specs.Instructions.{place_of_task, one, standing_code, operand_code, converted_code, operating, signs_code, as_number_code, cast_code, field_code, element_code, kept_code, slot_after, load_code}

abbrev pub count : Expressions → ℕ
count no_expr = 0
count (an_expr e es) = suc (count es)

abbrev mutual
  -- at a depth of children in use
  pub expr_code : Where → ℕ → Expression → Piece
  expr_code w d (number_expr z v) = one w (instr.Num z)
  expr_code w d (truth_expr b) = one w (instr.Num (kept_truth b))
  expr_code w d (chain_expr first rest) =
      expr_code w d first ⨟ links_code w d (typed w first) rest
  expr_code w d (prefix_expr signs e) =
      expr_code w d e ⨟ standing_code w (typed w e) ⨟ signs_code w (typed w e) signs
  -- a result is waited for at once
  expr_code w d (call_expr task args) =
      exprs_code w d (params_at w.tree w.scope (task_named w.tree task) args) args
      ⨟ one w (instr.Call (place_of_task w.tree task) (count args))
      ⨟ one w (instr.Store (result w d)) ⨟ one w (instr.Load (result w d))
  expr_code w d (access_expr n steps) =
      let t = (bound w n).static_type in
      load_code w t (slot_named w n) steps
      ⨟ steps_code w d t (own_slot w t (bound w n).place) steps
  expr_code w d (convert_expr t e) =
      expr_code w d e ⨟ standing_code w (typed w e) ⨟ as_number_code w t
  expr_code w d (is_null_expr e) = expr_code w d e ⨟ one w instr.IsNull
  expr_code w d (null_expr t) = one w (instr.Num (negsuc 0))
  expr_code w d (cast_expr t e) = expr_code w d e
      ⨟ cast_code w (typed w e) (written_pointer w.tree (in_scope w.scope) t)
  expr_code w d (space_expr k e) = expr_code w d e ⨟ one w instr.Space

  pub links_code : Where → ℕ → StaticType → Links → Piece
  links_code w d t no_link = empty
  links_code w d t (a_link Or e rest) =
      over instr.OrJump w.line (expr_code w d e) ⨟ links_code w d truth_type rest
  links_code w d t (a_link And e rest) =
      over instr.AndJump w.line (expr_code w d e) ⨟ links_code w d truth_type rest
  links_code w d t (a_link o e rest) =
      let u = typed w e in
      operand_code w (compares_pointers o t u) t ⨟ expr_code w d e
      ⨟ operand_code w (compares_pointers o t u) u ⨟ one w (operating o t u)
      ⨟ links_code w d (operated o t u) rest

  -- arguments, each converted to its parameter's type
  pub exprs_code : Where → ℕ → List StaticType → Expressions → Piece
  exprs_code w d types no_expr = empty
  exprs_code w d types (an_expr e es) =
      expr_code w d e ⨟ converted_code w (typed w e) (first_type types)
      ⨟ exprs_code w d (other_types types) es

  -- the steps of an access, from a thing of a type with a region's slot
  pub steps_code : Where → ℕ → StaticType → ℕ → Steps → Piece
  steps_code w d t s no_step = empty
  steps_code w d t s (field_step f rest) =
      field_code w t s f ⨟ steps_code w d (type_of_field w.tree t f) 0 rest
  steps_code w d t s (at_step e rest) =
      expr_code w d e ⨟ standing_code w (typed w e) ⨟ element_code w t s
      ⨟ kept_code w d t rest
      ⨟ steps_code w (suc d) (type_of_element w.scope t e) (slot_after w d t s) rest
