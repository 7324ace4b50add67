-- The code of an index launch: a loop over an index space whose shape is Launch, demanded or not (index launches:
-- Regent, SC 2015). Its calls are issued in one step. What is the same at each colour, a literal or a name that is bound
-- outside of the loop, is computed once, as the parameter wants it, and waits in a slot of its own; a child of a
-- partition is taken from that partition's slot, and the loop's variable, converted or not, is the colour.
use Rattle.std.specs.Prelude.{ℕ, suc, List, [], ◌∷◌, Bool, true, false, bytes_eq, cond, not, Option, None, Some, ◌&&◌}
use Rattle.index_launch.specs.declared.points.LaunchArg.{LaunchArg}
use Rattle.index_launch.specs.declared.points.LaunchArg.TheVariants as launch_arg
use Rattle.index_launch.specs.declared.view.LaunchShape.{LaunchShape}
use Rattle.index_launch.specs.declared.view.LaunchShape.TheVariants.{Launch}
use Rattle.regent_tree.specs.declared.typing.StaticType.{StaticType}
use Rattle.regent_tree.specs.Evaluation.{first_type, other_types}
use Rattle.regent_tree.specs.StaticTypes.{task_named}
use Rattle.regent_tree.specs.Syntax.{Block, Expression, Expressions, Form, Name, a_statement, access_expr, an_expr, at_step, call_form, convert_expr, for_in_form, no_expr, no_statement, no_step, then_statement}
use Rattle.regent_tree.specs.Typing.{params_at}
use Rattle.task_code.specs.declared.instr.Instr.TheVariants as instr
use Rattle.check_rules.specs.launches.Shapes.{shape_of}
use Rattle.check_rules.specs.types.Sorts.{is_space}
use Rattle.code_rules.specs.Expressions.{expr_code}
use Rattle.code_rules.specs.Instructions.{converted_code, one, place_of_task}
use Rattle.code_rules.specs.Pieces.{Piece, empty, ◌⨟◌}
use Rattle.code_rules.specs.Slots.{Where, slot_named, spare, typed}

-- ---- which loops are launches

abbrev pub is_launch : Option LaunchShape → Bool
is_launch (Some Launch) = true
is_launch shape = false

-- the call of a launch, with its line
pub record LaunchedCall : Type 0 where
  pub line : ℕ
  pub task : Name
  pub args : Expressions

abbrev pub call_on : ℕ → Form → Option LaunchedCall
call_on line (call_form task args) = Some (record { line = line; task = task; args = args })
call_on line form = None

abbrev pub one_call : Block → Option LaunchedCall
one_call (then_statement (a_statement line form) no_statement) = call_on line form
one_call body = None

-- it goes over an index space, as the types in the text have it: in a program with breaches its shape may be Launch also where
-- that isn't known
abbrev pub is_over_space : Where → Form → Bool
is_over_space w (for_in_form demanded i domain body) = is_space (typed w domain)
is_over_space w form = false

-- the call of a loop with this body, where it is a launch
abbrev pub launched_call : Where → Form → Block → Option LaunchedCall
launched_call w form body = cond (is_over_space w form && is_launch (shape_of w.tree w.scope form)) (one_call body) None

-- ---- arguments

-- It is the same at each colour. The other forms are the child of a partition, and a conversion of the loop's variable.
abbrev pub is_fixed : Name → Expression → Bool
is_fixed i (access_expr n no_step) = not (bytes_eq n i)
is_fixed i (access_expr n (at_step e rest)) = false
is_fixed i (convert_expr t e) = false
is_fixed i e = true

-- where such an argument waits, by its place in the call
abbrev pub kept : Where → ℕ → ℕ
kept w place = spare w place

abbrev pub varying_arg : Where → Expression → LaunchArg
varying_arg w (access_expr n (at_step e rest)) = launch_arg.Child (slot_named w n)
varying_arg w e = launch_arg.Point

abbrev pub arg_of : Where → Name → ℕ → Expression → LaunchArg
arg_of w i place e = cond (is_fixed i e) (launch_arg.Keep (kept w place)) (varying_arg w e)

abbrev pub args_of : Where → Name → ℕ → Expressions → List LaunchArg
args_of w i place no_expr = []
args_of w i place (an_expr e es) = arg_of w i place e ∷ args_of w i (suc place) es

-- from a place on, by the types of the parameters
abbrev pub fixed_code : Where → ℕ → StaticType → Expression → Piece
fixed_code w place t e = expr_code w 0 e ⨟ converted_code w (typed w e) t ⨟ one w (instr.Store (kept w place))

abbrev pub kept_code : Where → Name → ℕ → List StaticType → Expressions → Piece
kept_code w i place types no_expr = empty
kept_code w i place types (an_expr e es) =
    cond (is_fixed i e) (fixed_code w place (first_type types) e) empty
    ⨟ kept_code w i (suc place) (other_types types) es

-- ---- the launch

-- Over the index space in a slot: the arguments stand in the scope of the loop's body, on the line of the call.
abbrev pub launch_code : Where → Where → Name → ℕ → LaunchedCall → Piece
launch_code w inner i space c =
    kept_code inner i 0 (params_at inner.tree inner.scope (task_named inner.tree c.task) c.args) c.args
    ⨟ one w (instr.Launch (place_of_task w.tree c.task) space c.line (args_of inner i 0 c.args))
