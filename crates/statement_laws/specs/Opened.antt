-- The task instances that a run opens.
--
-- The meaning takes what calls answer as a function, and keeps no list of the calls that are made. So that an instance
-- makes a call is told by asking what would be if this call, and no other, gave the fault Depth: the instance's run
-- would end with it. Meanwhile a call that nests too deep has the fault Turns, so that Depth is told by this call alone.
use Rattle.std.specs.Prelude.{Bool, List, [], cond, length, suc, true, ℕ, ℤ, ◌≡◌}
use Rattle.regent_tree.specs.Execution.{Going}
use Rattle.regent_tree.specs.Meaning.{calls_at, run_task}
use Rattle.regent_tree.specs.Running.{Calls, Result, broke}
use Rattle.regent_tree.specs.StaticTypes.{entry_name, task_named}
use Rattle.regent_tree.specs.Store.{Store}
use Rattle.regent_tree.specs.Syntax.{Name, TaskTree, Tree}
use Rattle.regent_tree.specs.Values.{Value}
use Rattle.regent_tree.specs.declared.outcome.FaultKind.TheVariants.{Depth, Turns}
use Rattle.check_rules.specs.Breaches.{breaches}
use Rattle.alike_runs.specs.Alike.{EndsEarly, renamed_answer}
use Rattle.expression_laws.specs.Needs.{IsCallWithin}
use Rattle.statement_laws.specs.Watching.{entry_args, keeps_privileges}
use Rattle.expression_laws.specs.WrittenStatements.{AreWrittenTasks}

-- a call: on which line, of which task, with which arguments, on which store
pub record Call : Type 0 where
  pub line : ℕ
  pub task : Name
  pub args : List Value
  pub store : Store

-- a task instance of a run: how many more calls may nest below it, its task, its arguments, and its caller's store
pub record Opened : Type 0 where
  pub more : ℕ
  pub task : TaskTree
  pub args : List Value
  pub store : Store

-- its run with these calls, and as the meaning has it
abbrev pub run_with_calls : Tree → ℕ → Calls → Opened → Result Going
run_with_calls tree turns calls i = run_task tree turns calls i.task i.args i.store

abbrev pub run_of_opened : Tree → ℕ → Opened → Result Going
run_of_opened tree turns i = run_with_calls tree turns (calls_at tree turns i.more) i

-- calls of which those that pass a test give the fault Depth, and no other does
abbrev pub probed : (Call → Bool) → Calls → Calls
probed test calls line task vs store =
    cond (test (record { line = line; task = task; args = vs; store = store })) (broke (record { kind = Depth; line = line }) []) (renamed_answer Turns (calls line task vs store))

-- an instance makes a call
pub record Makes (tree : Tree) (turns : ℕ) (i : Opened) (c : Call) : Type 0 where
  pub test : Call → Bool
  pub only : (d : Call) → test d ≡ true → d ≡ c
  pub ends : EndsEarly (run_with_calls tree turns (probed test (calls_at tree turns i.more)) i)

-- a run opens an instance of the entry task, and one for each call that an instance makes which it opens
pub data Opens (tree : Tree) (inputs : List ℤ) (turns : ℕ) : Opened → Type 0 where
  entry : Opens tree inputs turns (record { more = 63; task = task_named tree (entry_name tree); args = entry_args tree inputs; store = [] })
  by_call : {more : ℕ} {task : TaskTree} {args : List Value} {store : Store} {c : Call} →
      Opens tree inputs turns (record { more = suc more; task = task; args = args; store = store }) →
      Makes tree turns (record { more = suc more; task = task; args = args; store = store }) c →
      Opens tree inputs turns (record { more = more; task = task_named tree c.task; args = c.args; store = c.store })

-- In a program without a breach each touch of each task instance that a run opens is covered by what its task
-- declares.
abbrev pub OpenedInstancesAreCovered : Type 0
OpenedInstancesAreCovered = (tree : Tree) (inputs : List ℤ) (turns : ℕ) → breaches tree ≡ [] → AreWrittenTasks tree →
    length inputs ≡ length (task_named tree (entry_name tree)).params →
    (i : Opened) → Opens tree inputs turns i → keeps_privileges tree (length i.store) i.task i.args (run_of_opened tree turns i) ≡ true

-- And what each call of such an instance needs lies within what the instance has: at each field of each point.
abbrev pub OpenedCallsLieWithin : Type 0
OpenedCallsLieWithin = (tree : Tree) (inputs : List ℤ) (turns : ℕ) → breaches tree ≡ [] → AreWrittenTasks tree →
    length inputs ≡ length (task_named tree (entry_name tree)).params →
    (i : Opened) (c : Call) → Opens tree inputs turns i → Makes tree turns i c →
    IsCallWithin (record { tree = tree; calls = calls_at tree turns i.more; task = i.task; args = i.args; roots = length i.store }) (task_named tree c.task) c.args
