-- Two places at which statements stand, and all that the laws on statements and expressions suppose there: where a
-- body begins with a reduction, and behind a variable that begins with a new region, where the call stands to which
-- that region is handed.
use Rattle.std.specs.Prelude.{List, None, [], ◌∷◌, ◌≡◌, codes, ℕ}
use Rattle.lane_kernels.specs.declared.numbers.Op.TheVariants.{Sum}
use Rattle.regent_tree.specs.Execution.{after_statement, exec, on_line}
use Rattle.regent_tree.specs.Meaning.{body_of, calls_at, opening}
use Rattle.regent_tree.specs.Running.{Here, State}
use Rattle.regent_tree.specs.StaticTypes.{entry_name, task_named}
use Rattle.regent_tree.specs.Syntax.{Expressions, Form, TaskTree, Tree}
use Rattle.regent_tree.specs.Values.{Value}
use Rattle.regent_tree.specs.declared.program.Grant.TheVariants.{Reads, Reduces}
use Rattle.check_rules.specs.first.FirstInExpressions.{first_in_args, first_in_expression, first_of_call}
use Rattle.check_rules.specs.first.FirstInStatements.{first_of_form, first_within}
use Rattle.check_rules.specs.types.KnownTypes.{known_types}
use Rattle.check_rules.specs.types.TypedForms.{calling}
use Rattle.fact_laws.specs.Regions.{Interpretation}
use Rattle.expression_laws.specs.Laws.{IsReadyToEvaluate, instance_at}
use Rattle.expression_laws.specs.Sound.{IsSoundState}
use Rattle.statement_laws.specs.Example.{example_args, example_state, example_task, example_tree}
use Rattle.statement_laws.specs.Laws.{state_of}
use Rattle.statement_laws.specs.Places.{IsReady}
use Rattle.statement_laws.specs.WatchedExample.{calling_tree}
use Rattle.expression_laws.specs.WrittenStatements.{IsWrittenForm}
use Rattle.worked_examples.specs.Words.{access, args, at, call, dot, get, int, new_region, reduce, space, space_of, var_from}

-- a statement at a place, and a state from which it is executed: what laws suppose of them
pub record IsStatementPlace (task : TaskTree) (given : List Value) (roots : ℕ) (h : Here) (form : Form) (u : State) : Type 0 where
  pub meant : Interpretation
  pub ready : IsReady task given roots meant h
  pub evaluates : IsReadyToEvaluate task given roots meant h
  pub told : first_of_form h.tree task h.scope form ≡ None
  pub within : first_within h.tree task h.scope form ≡ None
  pub written : IsWrittenForm form
  pub state : IsSoundState (instance_at task given roots h) meant h.scope u

-- where the body of the task t begins
abbrev pub reduction_here : Here
reduction_here = on_line (body_of example_tree (calls_at example_tree 10 63) example_task) 2

abbrev pub reduction : Form
reduction = reduce "r" (at (int 0) ∷ dot "x" ∷ []) Sum (access "r" (at (int 1) ∷ dot "x" ∷ []))

-- the main task of another program, its variable, and the call behind it
abbrev pub caller_tree : Tree
caller_tree = calling_tree (Reads ∷ Reduces Sum ∷ [])

abbrev pub caller_task : TaskTree
caller_task = task_named caller_tree (entry_name caller_tree)

abbrev pub variable : Form
variable = var_from "s" (new_region (space (int 2)) (space_of "f" []))

abbrev pub caller_begins : Here
caller_begins = on_line (body_of caller_tree (calls_at caller_tree 10 63) caller_task) 5

abbrev pub call_here : Here
call_here = on_line (after_statement caller_begins variable) 6

abbrev pub call_state : State
call_state = state_of (exec caller_begins variable (opening caller_tree 10 caller_task [] []))

abbrev pub handed : Expressions
handed = args (get "s" ∷ [])

-- At each nothing is told of the expressions either: of the reduction's right side, of the call's arguments, and of
-- the call itself.
pub record PlacesAreReady : Type 0 where
  pub reduction : IsStatementPlace example_task example_args 1 reduction_here reduction example_state
  pub right_side : first_in_expression example_tree example_task reduction_here.scope (access "r" (at (int 1) ∷ dot "x" ∷ [])) ≡ None
  pub call : IsStatementPlace caller_task [] 0 call_here (call "t" (get "s" ∷ [])) call_state
  pub arguments : first_in_args caller_tree caller_task call_here.scope handed ≡ None
  pub asked : first_of_call caller_tree caller_task call_here.scope (calling (codes "t") (known_types caller_tree call_here.scope handed)) ≡ None
