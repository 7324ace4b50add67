-- A task instance in a run in order, instruction by instruction: what a segment stops for is done at
-- once, and the instance goes on.
use Rattle.std.specs.Prelude.{◌≡◌, Bool, false, true, ℕ, zero, suc, ◌+◌, List, ◌++◌, None, Option, Some}
use Rattle.region_tree.specs.declared.tree.RootId.{RootId}
use Rattle.regent_tree.specs.declared.outcome.Fault.{Fault}
use Rattle.regent_tree.specs.Syntax.{Tree}
use Rattle.regent_tree.specs.Values.{Value as Meant}
use Rattle.regent_tree.specs.declared.facts.Colour.{Colour}
use Rattle.regent_tree.specs.declared.typing.StaticType.{StaticType}
use Rattle.task_code.specs.declared.code.Code.{Code}
use Rattle.task_code.specs.declared.code.Line.{Line}
use Rattle.task_code.specs.declared.code.NeedCode.{NeedCode}
use Rattle.task_code.specs.declared.instr.Instr.{Instr}
use Rattle.task_code.specs.declared.instr.Instr.TheVariants as instr
use Rattle.machine_terms.specs.declared.order.Ended.{Ended}
use Rattle.machine_terms.specs.declared.order.Ended.TheVariants.{Broke}
use Rattle.machine_terms.specs.declared.order.Instance.{Instance}
use Rattle.machine_terms.specs.declared.order.Resumed.{Resumed}
use Rattle.machine_terms.specs.declared.order.Resumed.TheVariants.{GoesOn, IsOver}
use Rattle.machine_terms.specs.declared.outcome.Yield.TheVariants as yield
use Rattle.machine_terms.specs.declared.value.Value.{Value}
use Rattle.machine_terms.specs.Machine.{Stepped}
use Rattle.machine_terms.specs.Orders.{Runner}
pub use Rattle.eager_laws.specs.Steps.{due, has_machine, machine_of, now_or_due, resolved}
use Rattle.eager_laws.specs.Steps.{Running, advance_eager, behind_line_eager, behind_eager, on_step as step_on, run_by}

-- a task that may have regions among its parameters: how many parameters there are, what it needs of them, which
-- of them have regions that lie within those of which others, within which region one with a number begins as a part, and
-- as which part: of which partition, and of which colour
pub record Taking : Type 0 where
  pub params : ℕ
  pub needs : List NeedCode
  pub within : List (ℕ × ℕ)
  pub above : ℕ → Option ℕ
  pub piece : ℕ → Option (ℕ × Colour)

-- which forms a body may have beside those of numbers and truths: roots that are made, calls, regions that are
-- handed over, and pointers that are kept, with loops over regions and indices in variables and fields
pub record Forms : Type 0 where
  pub makes : Bool
  pub calls : Bool
  pub takes : Option Taking
  pub keeps : Bool

-- the same forms without kept pointers
abbrev pub without_pointers : Forms → Forms
without_pointers forms = record forms { keeps = false }

-- The program, the code of all tasks, the turns of each instance, what calls give, the code of the task, and its
-- result's type; its depth, the numbers of the roots that were there when it began, its arguments, and the forms
-- that its body may have.
pub record Setting : Type 0 where
  pub tree : Tree
  pub code : Code
  pub turns : ℕ
  pub child : Runner
  pub body : List Line
  pub result : StaticType
  pub depth : ℕ
  pub before : List ℕ
  pub args : List Meant
  pub forms : Forms

-- what runs: the code, the turns, what calls come to, and the code of the task
abbrev pub running : Setting → Running
running x = record { code = x.code; turns = x.turns; child = x.child; body = x.body }

-- the instance at a place, with a stack
abbrev pub placed : ℕ → List Value → Instance → Instance
placed pc st i = record i { frame = record i.frame { pc = pc; stack = st } }

-- Step by step in the eager run: the result of each call is a number at once (eager_laws).
abbrev pub on_step : Setting → Instance → Stepped → Resumed
on_step x i s = step_on (running x) i s

abbrev pub behind : Instr → Resumed → Resumed
behind i r = behind_eager i r

abbrev pub behind_line : Option Line → Resumed → Resumed
behind_line o r = behind_line_eager o r

-- a call or a launch
abbrev pub is_issue : Instr → Bool
is_issue (instr.Launch task s line args) = true
is_issue (instr.Call task n) = true
is_issue _ = false

abbrev pub advance : Setting → Instance → Resumed
advance x i = advance_eager (running x) i

-- at most so many instructions and waits
abbrev pub run_steps : Setting → ℕ → Instance → Ended
run_steps x k i = run_by (advance_eager (running x)) k i

-- roots behind others
pub record HasMore (before after : List RootId) : Type 0 where
  pub more : List RootId
  pub are : after ≡ before ++ more

-- from one instance the run comes to another one, in a number of steps; it has its roots still
pub record Leads (x : Setting) (i j : Instance) : Type 0 where
  pub steps : ℕ
  pub by : (k n : ℕ) → n ≡ steps + k → run_steps x n i ≡ run_steps x k j
  pub own : HasMore i.frame.own j.frame.own

-- the run ends so, with any number of further steps
pub record Ends (x : Setting) (i : Instance) (e : Ended) : Type 0 where
  pub steps : ℕ
  pub by : (k n : ℕ) → n ≡ steps + k → run_steps x n i ≡ e
