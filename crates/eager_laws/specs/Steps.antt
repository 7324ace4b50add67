-- A task instance in a run in order, instruction by instruction: as the machine runs it, and in the eager run,
-- where the result of each call is a number at once.
use Rattle.std.specs.Prelude.{◌≡◌, ℕ, zero, suc, ◌+◌, ℤ, List, ◌∷◌, ◌++◌, None, Option, Some, slice_get}
use Rattle.regent_tree.specs.declared.outcome.Fault.{Fault}
use Rattle.task_code.specs.declared.code.Code.{Code}
use Rattle.task_code.specs.declared.code.Line.{Line}
use Rattle.task_code.specs.declared.instr.Instr.{Instr}
use Rattle.task_code.specs.declared.instr.Instr.TheVariants as instr
use Rattle.machine_terms.specs.declared.order.Ended.{Ended}
use Rattle.machine_terms.specs.declared.order.Ended.TheVariants.{Broke}
use Rattle.machine_terms.specs.declared.order.Instance.{Instance}
use Rattle.machine_terms.specs.declared.order.Resumed.{Resumed}
use Rattle.machine_terms.specs.declared.order.Resumed.TheVariants.{GoesOn, IsOver}
use Rattle.machine_terms.specs.declared.outcome.Yield.TheVariants as yield
use Rattle.machine_terms.specs.declared.value.Value.{Value}
use Rattle.machine_terms.specs.declared.value.Value.TheVariants.{Number, Pending}
use Rattle.machine_terms.specs.Jumps.{fetch}
use Rattle.machine_terms.specs.Machine.{Machine, Stepped, goes, prints, stops}
use Rattle.machine_terms.specs.Orders.{Runner, conclude, resume_in, until_over}
use Rattle.machine_terms.specs.Segments.{frame_after, step}

-- the code of all tasks, the turns of each instance, what calls result in, and the code of the task
pub record Running : Type 0 where
  pub code : Code
  pub turns : ℕ
  pub child : Runner
  pub body : List Line

abbrev pub machine_of : Instance → Machine
machine_of i = record { frame = i.frame; parts = i.parts }

abbrev pub has_machine : Machine → Instance → Instance
has_machine m i = record i { frame = m.frame; parts = m.parts }

-- what a step stops for is done at once
abbrev pub on_step : Running → Instance → Stepped → Resumed
on_step x i (goes m) = GoesOn (has_machine m i)
on_step x i (prints t m) = GoesOn (record (has_machine m i) { text = i.text ++ t })
on_step x i (stops y m) =
    resume_in x.code x.turns x.child (frame_after y m.frame) y (has_machine m i)

-- a fault that a launch keeps for later comes where the instance would go on
abbrev pub now_or_due : Option Fault → Instance → Resumed
now_or_due None i = GoesOn i
now_or_due (Some f) i = IsOver (conclude (yield.Fault f) i)

abbrev pub due : Resumed → Resumed
due (GoesOn i) = now_or_due i.frame.later i
due (IsOver e) = IsOver e

-- ---- as the machine runs it

abbrev pub behind : Instr → Resumed → Resumed
behind (instr.Launch task s line args) r = due r
behind _ r = r

abbrev pub behind_line : Option Line → Resumed → Resumed
behind_line None r = r
behind_line (Some l) r = behind l.instr r

abbrev pub advance : Running → Instance → Resumed
advance x i = behind_line (fetch x.body i.frame.pc) (on_step x i (step x.code x.body (machine_of i)))

-- ---- the eager run

-- a pending child whose result is known is that number
abbrev pub known_as : Option ℤ → ℕ → Value
known_as (Some z) n = Number z
known_as None n = Pending n

abbrev pub known : List ℤ → Value → Value
known rs (Pending n) = known_as (slice_get rs n) n
known rs v = v

abbrev pub known_top : List ℤ → List Value → List Value
known_top rs (v ∷ st) = known rs v ∷ st
known_top rs st = st

abbrev pub resolved : Resumed → Resumed
resolved (GoesOn i) = GoesOn (record i { frame = record i.frame { stack = known_top i.results i.frame.stack } })
resolved (IsOver e) = IsOver e

-- after a call its result is on the stack; all else is as above
abbrev pub behind_eager : Instr → Resumed → Resumed
behind_eager (instr.Launch task s line args) r = due r
behind_eager (instr.Call task n) r = resolved r
behind_eager _ r = r

abbrev pub behind_line_eager : Option Line → Resumed → Resumed
behind_line_eager None r = r
behind_line_eager (Some l) r = behind_eager l.instr r

abbrev pub advance_eager : Running → Instance → Resumed
advance_eager x i = behind_line_eager (fetch x.body i.frame.pc) (on_step x i (step x.code x.body (machine_of i)))

-- ---- to the end

-- at most so many instructions and waits
abbrev pub run_by : (Instance → Resumed) → ℕ → Instance → Ended
run_by advances zero i = Broke None i.text
run_by advances (suc k) i = until_over (advances i) (run_by advances k)

-- the run ends so, with any number of further steps
pub record Ends (advances : Instance → Resumed) (i : Instance) (e : Ended) : Type 0 where
  pub steps : ℕ
  pub by : (k n : ℕ) → n ≡ steps + k → run_by advances n i ≡ e
