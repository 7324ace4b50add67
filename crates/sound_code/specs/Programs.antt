-- Compiled code is sound, and the frames that open in it fit.
use Rattle.std.specs.Prelude.{◌≡◌, ◌≢◌, ℕ, ◌<◌, ◌^◌, ℤ, List, [], length, map, Bool, false, true, Some, slice_get, None}
use Rattle.regent_tree.specs.Limits.{WithinLimits}
use Rattle.regent_tree.specs.StaticTypes.{entry_name, task_named}
use Rattle.regent_tree.specs.Syntax.{TaskTree, Tree}
use Rattle.regent_tree.specs.Typing.{param_types}
use Rattle.regent_tree.specs.Store.{Touch}
use Rattle.task_code.specs.declared.code.TaskCode.{TaskCode}
use Rattle.machine_terms.specs.declared.frame.Before.{Before}
use Rattle.machine_terms.specs.declared.outcome.CallOut.{CallOut}
use Rattle.machine_terms.specs.declared.outcome.Made.TheVariants as made
use Rattle.machine_terms.specs.declared.outcome.Yield.TheVariants as yield
use Rattle.machine_terms.specs.declared.value.RegionValue.{RegionValue}
use Rattle.machine_terms.specs.Makes.{is_sound}
use Rattle.machine_terms.specs.Segments.{segment}
use Rattle.machine_terms.specs.Touches.{segment_touches}
use Rattle.machine_terms.specs.declared.value.Value.{Value}
use Rattle.machine_terms.specs.declared.value.Value.TheVariants.{Number}
use Rattle.machine_terms.specs.declared.order.Instance.{Instance}
use Rattle.machine_terms.specs.Contents.{no_contents}
use Rattle.machine_terms.specs.Jobs.{first_frame}
use Rattle.machine_terms.specs.Orders.{before_of, begun}
use Rattle.fit_runs.specs.Runs.{BeginsFitting, Comes, IsSoundCode}
use Rattle.code_rules.specs.Instructions.{place_of_task, tasks_of}
use Rattle.code_rules.specs.Programs.{code_of, task_code}
use Rattle.code_laws.specs.Handing.{AreTypedBy}
use Rattle.code_laws.specs.AcceptedPrograms.{IsProgramRun, IsPlainProgramRun}
use Rattle.code_laws.specs.Programs.{AreTypedTasks, IsTypedRun, call_forms, job_of, region_forms, scalar_forms}
use Rattle.code_laws.specs.ScalarPrograms.{IsScalarProgramRun}
use Rattle.code_laws.specs.Simple.{IsSimple}
use Rattle.code_laws.specs.Steps.{Forms}
use Rattle.fit_rules.specs.Shapes.{anything, Are, Each, Shape, World}
use Rattle.fit_rules.specs.Ends.{AfterFits, called, CallsWell, opening_machine}
use Rattle.fit_rules.specs.Fits.{BeforeFits, Covers, Fits, Program}
use Rattle.fit_rules.specs.Sound.{IsSound}
use Rattle.fit_laws.specs.Segments.{PassesTest}
use Rattle.check_rules.specs.Breaches.{breaches}
use Rattle.expression_laws.specs.WrittenStatements.{AreWrittenTasks}
use Rattle.fit_rules.specs.Marks.{Holds}
use Rattle.sound_code.specs.Marks.{IsOfTree}
use Rattle.sound_code.specs.Ways.{by_rules, none_begun, opening_facts, shape_in, shape_of}

-- the entry task's code
abbrev pub entry_code : Tree → TaskCode
entry_code tree = task_code tree (task_named tree (entry_name tree))

abbrev pub entry_place : Tree → ℕ
entry_place tree = place_of_task tree (entry_name tree)

-- around the first task there is nothing but its inputs
abbrev pub first_world : List ℤ → World
first_world inputs = record {
  there = λ r. false;
  spaces = λ r. 0;
  points = λ r. [];
  results = λ i. anything;
  children = 0;
  own = [];
  last = λ i. None;
  args = map Number inputs;
  held = [];
}

-- the frame in which the run of a job begins fits, whatever its inputs and turns
abbrev pub BeginsWell : Forms → Tree → Program → Type 0
BeginsWell forms tree program = (inputs : List ℤ) (turns : ℕ) → IsTypedRun forms tree inputs → turns < 2 ^ 64 →
    Fits program (first_world inputs) (entry_code tree) (entry_place tree)
    (record { frame = first_frame (job_of tree inputs turns) (entry_code tree); parts = [] })

-- What a segment keeps: what it leaves fits again, and it isn't a machine fault. Each of its touches is covered by
-- what its task declares or of a root that the task made; what each child needs is within what the task needs, its
-- opening frame fits, and it passes the test of the run in order; and each partition lies in its region and keeps
-- its flag.
pub record KeepsAll (g : Program) (x : World) (t : TaskCode) (k : ℕ) (b : Before) : Type 0 where
  pub fits : AfterFits g x t k (segment b)
  pub unbroken : (segment b).ends ≢ yield.MachineFault
  pub touches : Each (λ (u : Touch). Covers g x t u.root u.field u.point u.access) (segment_touches b)
  pub children : (cs : List CallOut) → (segment b).ends ≡ yield.Calls cs → Each (CallsWell g x t) cs × Each (PassesTest g x t) cs
  pub partitions : (r : RegionValue) (sets : List (List ℕ)) (flag : Bool) →
      (segment b).ends ≡ yield.Make (made.Partition r sets flag) → is_sound r.points sets flag ≡ true

-- from every state of a task that fits, whether a run in order comes to it or not
abbrev pub NeverBreaks : Program → TaskCode → ℕ → Type 0
NeverBreaks g t k = (x : World) (b : Before) → BeforeFits g x t k b → KeepsAll g x t k b

-- an instance begins its next segment from a state that fits, and the segment keeps all
pub record SegmentKeepsAll (g : Program) (i : Instance) : Type 0 where
  pub begins : BeginsFitting g i
  pub keeps : KeepsAll g begins.world begins.task begins.place (before_of g.code i)

-- so it is of each instance to which the run in order of a job comes
abbrev pub RunKeepsAll : Tree → Program → List ℤ → ℕ → Type 0
RunKeepsAll tree g inputs turns = (more : ℕ) (j : Instance) →
    Comes g.code turns (begun (first_frame (job_of tree inputs turns) (entry_code tree)) [] no_contents) more j → SegmentKeepsAll g j

-- whatever its inputs and turns
abbrev pub RunsKeepAll : Forms → Tree → Program → Type 0
RunsKeepAll forms tree g = (inputs : List ℤ) (turns : ℕ) → IsTypedRun forms tree inputs → turns < 2 ^ 64 → RunKeepsAll tree g inputs turns

-- The program's code, with a mark for each place, such that the entry task's code is sound and so never breaks;
-- and its run begins well.
pub record RunsSoundly (forms : Forms) (tree : Tree) : Type 0 where
  pub program : Program
  pub code : program.code ≡ code_of tree
  pub sound : IsSound program (entry_code tree) (entry_place tree)
  pub segments : NeverBreaks program (entry_code tree) (entry_place tree)
  pub begins : BeginsWell forms tree program

-- where the entry task's body is typed and treats scalars alone
abbrev pub ScalarTasksAreSound : Type 0
ScalarTasksAreSound = (tree : Tree) (inputs : List ℤ) → IsTypedRun scalar_forms tree inputs → RunsSoundly scalar_forms tree

-- where it makes roots too
abbrev pub RegionTasksAreSound : Type 0
RegionTasksAreSound = (tree : Tree) (inputs : List ℤ) → IsTypedRun region_forms tree inputs → RunsSoundly region_forms tree

-- and so of each accepted program over scalars, where some numbers fit its inputs
abbrev pub ScalarProgramsAreSound : Type 0
ScalarProgramsAreSound = (tree : Tree) (inputs : List ℤ) → IsScalarProgramRun tree inputs → RunsSoundly scalar_forms tree

-- The code of each task is sound and so never breaks. The frame of a task that takes numbers, truths, indices and
-- index spaces fits when it opens, with any values of these types, around any roots; its run begins well, and in order
-- it keeps all.
pub record TasksRunSoundly (tree : Tree) : Type 0 where
  pub program : Program
  pub code : program.code ≡ code_of tree
  pub sound : (k : ℕ) (t : TaskTree) → slice_get (tasks_of tree) k ≡ Some t → IsSound program (task_code tree t) k
  pub segments : (k : ℕ) (t : TaskTree) → slice_get (tasks_of tree) k ≡ Some t → NeverBreaks program (task_code tree t) k
  pub opens : (k : ℕ) (t : TaskTree) → slice_get (tasks_of tree) k ≡ Some t → Each IsSimple (param_types tree t) →
      (x : World) (args : List Value) (turns depth : ℕ) → turns < 2 ^ 64 → Are x (map shape_of (param_types tree t)) args →
      Fits program (called x args) (task_code tree t) k (opening_machine turns depth k (task_code tree t) args)
  pub begins : BeginsWell call_forms tree program
  pub runs : RunsKeepAll call_forms tree program

-- where each task is typed, and tasks call others that take and give numbers and truths
abbrev pub CallsAreSound : Type 0
CallsAreSound = (tree : Tree) → AreTypedTasks tree → TasksRunSoundly tree

-- ---- by the rules

-- the shapes of a task's arguments, where its regions are given to it
abbrev pub argument_shapes : Tree → TaskTree → List Shape
argument_shapes tree t = map (shape_in (by_rules none_begun t) (length t.params)) (param_types tree t)

-- what a task's clauses tell of its arguments holds of them, and each partition is of the region that its type names
abbrev pub AreConstrained : Tree → TaskTree → List Value → Type 0
AreConstrained tree t args = Each (λ f. Holds f args) (opening_facts (by_rules none_begun t) tree t)

-- With marks that are the tree's the code of each task is sound and so never breaks, and 0 is one of its results. The frame of a task
-- fits when it opens with any values of its parameters' types, regions among them, of which its constraints hold, around any roots, at
-- any depth and with any turns; and what fits, at any place of the code, began with such arguments. Its run begins well, and in order it
-- keeps all.
pub record TasksKeepRules (tree : Tree) : Type 0 where
  pub program : Program
  pub code : program.code ≡ code_of tree
  pub of_tree : IsOfTree tree program
  pub sound : (k : ℕ) (t : TaskTree) → slice_get (tasks_of tree) k ≡ Some t → IsSound program (task_code tree t) k
  pub all : IsSoundCode program
  pub segments : (k : ℕ) (t : TaskTree) → slice_get (tasks_of tree) k ≡ Some t → NeverBreaks program (task_code tree t) k
  pub opens : (k : ℕ) (t : TaskTree) → slice_get (tasks_of tree) k ≡ Some t → (x : World) (args : List Value) (turns depth : ℕ) →
      turns < 2 ^ 64 → Are (called x args) (argument_shapes tree t) args → AreConstrained tree t args →
      Fits program (called x args) (task_code tree t) k (opening_machine turns depth k (task_code tree t) args)
  pub began : (k : ℕ) (t : TaskTree) → slice_get (tasks_of tree) k ≡ Some t → (x : World) (b : Before) → BeforeFits program x (task_code tree t) k b →
      Are (called x x.args) (argument_shapes tree t) x.args × AreConstrained tree t x.args
  pub begins : (forms : Forms) → BeginsWell forms tree program
  pub runs : (forms : Forms) → RunsKeepAll forms tree program

-- where no rule is breached and each task is typed: tasks may take regions, with privileges and constraints on them
abbrev pub AcceptedTasksAreSound : Type 0
AcceptedTasksAreSound = (tree : Tree) → breaches tree ≡ [] → AreTypedTasks tree → TasksKeepRules tree

-- Where tasks also hand regions to those that they call, roots that they made and regions that they took: the frame that a
-- call opens fits, so that the constraints of the called task hold, and what it needs is within what its caller needs.
abbrev pub HandingTasksAreSound : Type 0
HandingTasksAreSound = (tree : Tree) → breaches tree ≡ [] → AreTypedBy true false tree → TasksKeepRules tree

-- an accepted program as the reader gives it, whatever its inputs
pub record IsAcceptedProgram (tree : Tree) : Type 0 where
  pub within : WithinLimits tree
  pub accepted : breaches tree ≡ []
  pub written : AreWrittenTasks tree

-- The code of each such program keeps the rules: from every state that fits it, a segment keeps all. No inputs are asked for.
abbrev pub AcceptedCodeKeepsRules : Type 0
AcceptedCodeKeepsRules = (tree : Tree) → IsAcceptedProgram tree → TasksKeepRules tree

-- An accepted program, and numbers that fit its inputs: the
-- code of each task is sound, frames of its tasks fit when they open, and so does the one in which its run begins; and
-- each segment of its run in order keeps all.
pub record ProgramRunsSoundly (tree : Tree) (inputs : List ℤ) : Type 0 where
  pub tasks : TasksKeepRules tree
  pub first : (turns : ℕ) → turns < 2 ^ 64 → Fits tasks.program (first_world inputs) (entry_code tree) (entry_place tree)
      (record { frame = first_frame (job_of tree inputs turns) (entry_code tree); parts = [] })
  pub runs : (turns : ℕ) → turns < 2 ^ 64 → RunKeepsAll tree tasks.program inputs turns

abbrev pub PlainProgramsAreSound : Type 0
PlainProgramsAreSound = (tree : Tree) (inputs : List ℤ) → IsPlainProgramRun tree inputs → ProgramRunsSoundly tree inputs

-- so it is of each accepted program
abbrev pub WholeProgramsAreSound : Type 0
WholeProgramsAreSound = (tree : Tree) (inputs : List ℤ) → IsProgramRun tree inputs → ProgramRunsSoundly tree inputs
