-- Expressions that are names, and variables that begin with them.
use Rattle.std.specs.Prelude.{ℕ, Option, Some, None, cond}
use Rattle.regent_tree.specs.Syntax.{Expression, Links, Name, a_link, access_expr, no_link, no_step}
use Rattle.regent_tree.specs.Typing.{reaches_of}
use Rattle.regent_tree.specs.declared.expression.Arithmetic.TheVariants.{Subtract}
use Rattle.regent_tree.specs.declared.expression.Operator.TheVariants.{Compute}
use Rattle.regent_tree.specs.declared.typing.StaticType.{StaticType}
use Rattle.task_code.specs.declared.instr.Instr.TheVariants as instr
use Rattle.code_rules.specs.Expressions.{expr_code}
use Rattle.code_rules.specs.Initializers.{beside_code, names_child, new_place}
use Rattle.code_rules.specs.Instructions.{one}
use Rattle.code_rules.specs.Pieces.{Piece, empty, ◌⨟◌}
use Rattle.code_rules.specs.Slots.{Where, beside, bound, slot_bound, slot_named}

-- the name that is all of an expression
abbrev pub name_alone : Expression → Option Name
name_alone (access_expr n no_step) = Some n
name_alone _ = None

-- the name that is all of what is taken off
abbrev pub name_taken_off : Links → Option Name
name_taken_off (a_link (Compute Subtract) e no_link) = name_alone e
name_taken_off _ = None

-- a variable that begins as the one of a name
abbrev pub beside_of : Where → StaticType → Name → Piece
beside_of w t n = cond (names_child (reaches_of t))
    (one w (instr.Load (beside w (bound w n).place)) ⨟ one w (instr.Store (beside w (new_place w))))
    empty

abbrev pub beside_where : Where → StaticType → Option Name → Piece
beside_where w t (Some n) = beside_of w t n
beside_where w t None = empty

-- a variable that begins with the difference of two names, or with an expression
abbrev pub difference_code : Where → StaticType → ℕ → Expression → Option Name → Option Name → Piece
difference_code w t r e (Some p) (Some q) =
    one w (instr.Minus (slot_named w p) (slot_named w q) (slot_bound w r))
difference_code w t r e _ _ = expr_code w 0 e ⨟ beside_code w t e
