-- Programs whose entry task treats scalars alone, and what is to be shown of them.
use Rattle.std.specs.Prelude.{◌≡◌, false, true, ℕ, ◌^◌, ◌<◌, ◌≤◌, ℤ, List, [], length, Some, None, slice_get}
use Rattle.regent_tree.specs.Meaning.{inputs_of, meaning}
use Rattle.regent_tree.specs.StaticTypes.{entry_name, task_named}
use Rattle.regent_tree.specs.Syntax.{TaskTree, Tree}
use Rattle.regent_tree.specs.Typing.{param_types, result_type}
use Rattle.regent_tree.specs.Values.{Value}
use Rattle.regent_tree.specs.declared.outcome.Ending.{Ending}
use Rattle.regent_tree.specs.declared.outcome.Ending.TheVariants.{Finished, Faulted, Broken}
use Rattle.regent_tree.specs.declared.types.Kind.{Kind}
use Rattle.regent_tree.specs.declared.typing.StaticType.{StaticType}
use Rattle.task_code.specs.declared.job.Job.{Job}
use Rattle.machine_terms.specs.Jobs.{order_run}
use Rattle.machine_terms.specs.Orders.{runs}
use Rattle.code_rules.specs.Instructions.{place_of_task, tasks_of}
use Rattle.code_rules.specs.Pieces.{lines}
use Rattle.code_rules.specs.Programs.{body_piece, code_of, place_of, task_code}
use Rattle.code_laws.specs.Simple.{IsScalar}
use Rattle.regent_tree.specs.declared.typing.StaticType.TheVariants.{Index as index_type, Nothing as no_type}
use Rattle.code_laws.specs.Typed.{IsTypedBlock}
use Rattle.code_laws.specs.Standing.{AreTaken, IsOf}
use Rattle.code_laws.specs.Steps.{Forms, Setting}

-- a program's code with the numbers and turns of a run
abbrev pub job_of : Tree → List ℤ → ℕ → Job
job_of tree inputs turns = record { code = code_of tree; inputs = inputs; turns = turns }

-- numbers and truths alone; roots too; and calls too
abbrev pub scalar_forms : Forms
scalar_forms = record { makes = false; calls = false; takes = None; keeps = false }

abbrev pub region_forms : Forms
region_forms = record { makes = true; calls = false; takes = None; keeps = false }

abbrev pub call_forms : Forms
call_forms = record { makes = true; calls = true; takes = None; keeps = false }

-- roots and kept pointers
abbrev pub pointer_forms : Forms
pointer_forms = record { makes = true; calls = false; takes = None; keeps = true }

-- all of these
abbrev pub all_forms : Forms
all_forms = record { makes = true; calls = true; takes = None; keeps = true }

-- a task at a depth, where so many more calls may nest, and these roots are there
abbrev pub task_setting : Forms → Tree → ℕ → ℕ → ℕ → List ℕ → TaskTree → Setting
task_setting forms tree turns more depth before t = record {
  tree = tree;
  code = code_of tree;
  turns = turns;
  child = runs (code_of tree) turns more;
  body = (task_code tree t).body;
  result = result_type tree t.result;
  depth = depth;
  before = before;
  args = [];
  forms = forms;
}

-- a task that was called with these arguments
abbrev pub called_setting : Forms → Tree → ℕ → ℕ → ℕ → List ℕ → List Value → TaskTree → Setting
called_setting forms tree turns more depth before args t = record (task_setting forms tree turns more depth before t) { args = args }

-- the entry task
abbrev pub entry_setting : Forms → Tree → ℕ → TaskTree → Setting
entry_setting forms tree turns t = task_setting forms tree turns 63 1 [] t

-- The entry task is one of the program, needs nothing, is typed and not too long, and takes the inputs. Its
-- body has these forms.
pub record IsTypedRun (forms : Forms) (tree : Tree) (inputs : List ℤ) : Type 0 where
  pub start : slice_get (code_of tree).tasks (place_of_task tree (entry_name tree))
      ≡ Some (task_code tree (task_named tree (entry_name tree)))
  pub needs : (task_code tree (task_named tree (entry_name tree))).needs ≡ []
  pub typed : IsTypedBlock forms (place_of tree (task_named tree (entry_name tree))) (task_named tree (entry_name tree)).body
  pub small : length (lines (body_piece tree (task_named tree (entry_name tree))) 0) ≤ 2 ^ 32
  pub taken : AreTaken IsOf (param_types tree (task_named tree (entry_name tree)))
      (inputs_of (param_types tree (task_named tree (entry_name tree))) inputs)
  pub count : length inputs ≡ length (task_named tree (entry_name tree)).params

-- the run in order of the compiled code is what the program means
abbrev pub RunsAsMeant : Tree → List ℤ → ℕ → Type 0
RunsAsMeant tree inputs turns = order_run (job_of tree inputs turns) ≡ meaning tree inputs turns

abbrev pub ScalarsRunAsMeant : Type 0
ScalarsRunAsMeant = (tree : Tree) (inputs : List ℤ) (turns : ℕ) → IsTypedRun scalar_forms tree inputs → RunsAsMeant tree inputs turns

-- Also where it makes roots, whose fields are read, written, reduced and filled at the points of regions that
-- have names.
abbrev pub RegionsRunAsMeant : Type 0
RegionsRunAsMeant = (tree : Tree) (inputs : List ℤ) (turns : ℕ) → IsTypedRun region_forms tree inputs → RunsAsMeant tree inputs turns

-- Also where it loops over regions and keeps pointers and indices, through which fields are read, written and
-- reduced.
abbrev pub PointersRunAsMeant : Type 0
PointersRunAsMeant = (tree : Tree) (inputs : List ℤ) (turns : ℕ) → IsTypedRun pointer_forms tree inputs → RunsAsMeant tree inputs turns

-- a result of numbers, truths or indices, or none
pub data IsGiven : StaticType → Type 0 where
  gives_scalar : (t : StaticType) → IsScalar t → IsGiven t
  gives_index : (k : Kind) → IsGiven (index_type k)
  gives_nothing : IsGiven no_type

-- Each task of the program gives such a result, is typed and not too long. Its body has these forms.
pub record IsTypedTaskOf (forms : Forms) (tree : Tree) (t : TaskTree) : Type 0 where
  pub given : IsGiven (result_type tree t.result)
  pub typed : IsTypedBlock forms (place_of tree t) t.body
  pub small : length (lines (body_piece tree t) 0) ≤ 2 ^ 32

abbrev pub AreTypedTasksOf : Forms → Tree → Type 0
AreTypedTasksOf forms tree = (k : ℕ) (t : TaskTree) → slice_get (tasks_of tree) k ≡ Some t → IsTypedTaskOf forms tree t

abbrev pub IsTypedTask : Tree → TaskTree → Type 0
IsTypedTask tree t = IsTypedTaskOf call_forms tree t

abbrev pub AreTypedTasks : Tree → Type 0
AreTypedTasks tree = AreTypedTasksOf call_forms tree

-- Also where tasks call others that take and give numbers and truths: each may make roots of its own.
abbrev pub CallsRunAsMeant : Type 0
CallsRunAsMeant = (tree : Tree) (inputs : List ℤ) (turns : ℕ) → turns < 2 ^ 64 → AreTypedTasks tree →
    IsTypedRun call_forms tree inputs → RunsAsMeant tree inputs turns

-- Also where such tasks loop over regions and keep pointers and indices.
abbrev pub PointerCallsRunAsMeant : Type 0
PointerCallsRunAsMeant = (tree : Tree) (inputs : List ℤ) (turns : ℕ) → turns < 2 ^ 64 → AreTypedTasksOf all_forms tree →
    IsTypedRun all_forms tree inputs → RunsAsMeant tree inputs turns

-- a run ends without roots, or with a fault
abbrev pub LeavesNoRoots : Ending → Type 0
LeavesNoRoots (Finished roots) = roots ≡ []
LeavesNoRoots (Faulted f) = Unit {0}
LeavesNoRoots Broken = ⊥
