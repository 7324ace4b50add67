-- The code of statements. Nothing is left on the stack.
use Rattle.std.specs.Prelude.{ℕ, pos, [], Bool, true, ◌||◌, nat_lt, cond, Option, Some, None}
use Rattle.regent_tree.specs.declared.typing.StaticType.{StaticType}
use Rattle.regent_tree.specs.Syntax.{Name, Expression, call_expr, Expressions, Steps, no_step, Initializer, plain_initializer, a_statement, Form, var_form, if_form, while_form, for_in_form, for_to_form, do_form, fill_form, assert_form, print_form, call_form, assign_form, return_form, Block, no_statement, then_statement, Arms, no_arm, an_arm, Otherwise, no_else, else_block}
use Rattle.regent_tree.specs.declared.typing.Bound.{Bound}
use Rattle.regent_tree.specs.declared.types.TypeTerm.{TypeTerm}
use Rattle.regent_tree.specs.declared.statement.How.{How}
use Rattle.regent_tree.specs.declared.statement.How.TheVariants as how
use Rattle.regent_tree.specs.StaticTypes.{task_named}
use Rattle.regent_tree.specs.Scopes.{with_name, past as past_scope}
use Rattle.regent_tree.specs.Typing.{arithmetic_type, params_at, var_type, scope_after, scope_after_block, scope_after_arms, taken_from, is_pointer}
use Rattle.task_code.specs.declared.instr.Instr.TheVariants as instr
use Rattle.code_rules.specs.Pieces.{Piece, empty, ◌⨟◌, branch, loop, rounds}
use Rattle.code_rules.specs.Slots.{Where, typed, slot, counter, beside, spare, bound, slot_named}
use Rattle.code_rules.specs.Instructions.{keeps_number, place_of_task, one, converted_code}
use Rattle.code_rules.specs.Expressions.{expr_code, exprs_code, count}
use Rattle.code_rules.specs.Initializers.{new_place, initializer_code}
use Rattle.code_rules.specs.Assignments.{right_code, target_code, fill_code}
use Rattle.code_rules.specs.Launches.{LaunchedCall, launch_code, launched_call}
use Rattle.code_rules.specs.Prints.{parts_of}

abbrev pub on_line : Where → ℕ → Where
on_line w line = record w { line = line }

abbrev pub looping : Where → Name → StaticType → Where
looping w n t = record w { scope = with_name w.scope n t true }

abbrev pub after_form : Where → Form → Where
after_form w form = record w { scope = scope_after w.tree w.scope form }

abbrev pub after_arm : Where → Block → Where
after_arm w body = record w { scope = past_scope w.scope (scope_after_block w.tree w.scope body) }

abbrev pub after_arms : Where → Arms → Where
after_arms w arms = record w { scope = scope_after_arms w.tree w.scope arms }

-- a loop over points, point by point
abbrev pub points_code : Where → Bool → Piece → Piece
points_code w pointers body =
    one w (instr.Num (pos 0)) ⨟ one w (instr.Store (counter w (new_place w)))
    ⨟ rounds (instr.NextPoint (beside w (new_place w)) (counter w (new_place w))
    (slot w (new_place w)) pointers) w.line body

-- a launch in one step, and any other loop as it stands
abbrev pub in_one_step : Where → Where → Name → Option LaunchedCall → Piece → Piece
in_one_step w inner i None points = points
in_one_step w inner i (Some c) points =
    launch_code w (on_line inner c.line) i (beside w (new_place w)) c

-- ---- results that are kept as they come

-- the call whose result goes into a variable of a type as it comes, with nothing that waits for it
abbrev pub call_kept : Where → StaticType → Expression → Option (Name × Expressions)
call_kept w t (call_expr task args) = cond (keeps_number (typed w (call_expr task args)) t) (Some (task, args)) None
call_kept w t e = None

abbrev pub call_begun : Where → StaticType → Option Initializer → Option (Name × Expressions)
call_begun w t (Some (plain_initializer e)) = call_kept w t e
call_begun w t i = None

-- a loop's variable or a parameter, in whose slot no child may be pending (neither is ever assigned)
abbrev pub is_still : ℕ → Bound → Bool
is_still params b = b.by_loop || nat_lt b.place params

abbrev pub call_assigned : Where → Name → Steps → How → Expression → Option (Name × Expressions)
call_assigned w n no_step how.Set e = cond (is_still w.params (bound w n)) None (call_kept w (bound w n).static_type e)
call_assigned w n steps h e = None

abbrev pub put_call : Where → ℕ → Name → Expressions → Piece
put_call w s task args = exprs_code w 0 (params_at w.tree w.scope (task_named w.tree task) args) args
    ⨟ one w (instr.Call (place_of_task w.tree task) (count args)) ⨟ one w (instr.Store s)

-- a variable that begins with anything
abbrev pub begun_form : Where → Option TypeTerm → Option Initializer → Piece
begun_form w term i = initializer_code w term (var_type w.tree w.scope term i) i ⨟ one w (instr.Store (slot w (new_place w)))

-- where there is one, it is put into a slot
abbrev pub kept_or : Where → ℕ → Option (Name × Expressions) → Piece → Piece
kept_or w s (Some c) other = put_call w s c.0 c.1
kept_or w s None other = other

abbrev mutual
  pub form_code : Where → Form → Piece
  form_code w (var_form n term initializer) =
      kept_or w (slot w (new_place w)) (call_begun w (var_type w.tree w.scope term initializer) initializer)
      (begun_form w term initializer)
  form_code w (if_form arms other) = arms_code w w arms (else_code (after_arms w arms) other)
  form_code w (while_form test body) =
      loop w.line (expr_code w 0 test) (block_code w body)
  form_code w (for_in_form demanded n domain body) =
      expr_code w 0 domain ⨟ one w (instr.Store (beside w (new_place w)))
      ⨟ in_one_step w (looping w n (taken_from (typed w domain))) n
      (launched_call w (for_in_form demanded n domain body) body)
      (points_code w (is_pointer (taken_from (typed w domain)))
      (block_code (looping w n (taken_from (typed w domain))) body))
  form_code w (for_to_form demanded n from to body) =
      let t = arithmetic_type (typed w from) (typed w to) in
      expr_code w 0 from ⨟ expr_code w 0 to
      ⨟ one w (instr.Store (beside w (new_place w))) ⨟ one w (instr.Store (counter w (new_place w)))
      ⨟ rounds (instr.NextNumber (counter w (new_place w)) (beside w (new_place w))
      (slot w (new_place w))) w.line (block_code (looping w n t) body)
  form_code w (do_form body) = block_code w body
  form_code w (fill_form r fields e) =
      expr_code w 0 e ⨟ one w (instr.Store (spare w 0))
      ⨟ fill_code w (typed w e) (bound w r).static_type (slot_named w r) fields
  form_code w (assert_form e) = expr_code w 0 e ⨟ one w instr.Assert
  form_code w (print_form alias format args) =
      exprs_code w 0 [] args ⨟ one w (instr.Print (parts_of [] format))
  form_code w (call_form task args) =
      exprs_code w 0 (params_at w.tree w.scope (task_named w.tree task) args) args
      ⨟ one w (instr.Call (place_of_task w.tree task) (count args)) ⨟ one w instr.Drop
  form_code w (assign_form n steps h e) =
      kept_or w (slot_named w n) (call_assigned w n steps h e) (right_code w n steps h e ⨟ target_code w n steps h)
  form_code w (return_form None) = one w instr.Return
  form_code w (return_form (Some e)) =
      expr_code w 0 e ⨟ converted_code w (typed w e) w.result ⨟ one w instr.ReturnValue

  -- each test stands in the scope of the `if` itself, and a block behind the arms before it
  pub arms_code : Where → Where → Arms → Piece → Piece
  arms_code own w no_arm other = other
  arms_code own w (an_arm test body rest) other = expr_code own 0 test
      ⨟ branch w.line (block_code w body) (arms_code own (after_arm w body) rest other)

  pub else_code : Where → Otherwise → Piece
  else_code w no_else = empty
  else_code w (else_block body) = block_code w body

  pub block_code : Where → Block → Piece
  block_code w no_statement = empty
  block_code w (then_statement (a_statement line form) rest) =
      form_code (on_line w line) form ⨟ block_code (after_form w form) rest
