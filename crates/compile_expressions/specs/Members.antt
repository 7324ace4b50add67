-- Codes of parts of expressions that a function of the compiler makes on its own.
use Rattle.std.specs.Prelude.{ℕ}
use Rattle.regent_tree.specs.Operators.{compares_pointers}
use Rattle.regent_tree.specs.StaticTypes.{task_named}
use Rattle.regent_tree.specs.Syntax.{Expression, Expressions, Name}
use Rattle.regent_tree.specs.Typing.{params_at}
use Rattle.regent_tree.specs.declared.expression.Operator.{Operator}
use Rattle.regent_tree.specs.declared.typing.StaticType.{StaticType}
use Rattle.task_code.specs.declared.instr.Instr.TheVariants as instr
use Rattle.code_rules.specs.Expressions.{count, expr_code, exprs_code}
use Rattle.code_rules.specs.Instructions.{one, operand_code, operating, place_of_task}
use Rattle.code_rules.specs.Pieces.{Piece, ◌⨟◌}
use Rattle.code_rules.specs.Slots.{Where, typed}

-- a call with its arguments
abbrev pub called_code : Where → ℕ → Name → Expressions → Piece
called_code w d task args =
    exprs_code w d (params_at w.tree w.scope (task_named w.tree task) args) args
    ⨟ one w (instr.Call (place_of_task w.tree task) (count args))

-- the right side of an operator that evaluates both operands, and the operator
abbrev pub computed_code : Where → ℕ → Operator → StaticType → Expression → Piece
computed_code w d o t e = let u = typed w e in
    operand_code w (compares_pointers o t u) t ⨟ expr_code w d e
    ⨟ operand_code w (compares_pointers o t u) u ⨟ one w (operating o t u)
