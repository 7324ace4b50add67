-- How an instance of the machine looks in the eager run, and which code waits for a child only where it loads
-- a slot.
use Rattle.std.specs.Prelude.{◌≡◌, ℕ, suc, ◌<◌, ℤ, List, [], ◌∷◌, Bool, true, false, map, length, Option, None, Some, slice_get}
use Rattle.index_launch.specs.declared.points.LaunchArg.{LaunchArg}
use Rattle.index_launch.specs.declared.points.LaunchArg.TheVariants as launch_arg
use Rattle.task_code.specs.declared.code.Line.{Line}
use Rattle.task_code.specs.declared.instr.Instr.{Instr}
use Rattle.task_code.specs.declared.instr.Instr.TheVariants as instr
use Rattle.machine_terms.specs.declared.frame.Frame.{Frame}
use Rattle.machine_terms.specs.declared.order.Instance.{Instance}
use Rattle.machine_terms.specs.declared.value.Value.{Value}
use Rattle.machine_terms.specs.declared.value.Value.TheVariants.{Pending}
use Rattle.machine_terms.specs.Calls.{is_pending}
use Rattle.machine_terms.specs.Jumps.{fetch}
use Rattle.eager_laws.specs.Steps.{known}

-- each pending child is replaced by its result
abbrev pub seen_frame : List ℤ → Frame → Frame
seen_frame rs f = record f { slots = map (known rs) f.slots; stack = map (known rs) f.stack }

abbrev pub seen : Instance → Instance
seen i = record i { frame = seen_frame i.results i.frame }

-- ---- code that puts results away

-- Some slots are for results. The result of a call is dropped, or stored into such a slot, at once.
abbrev pub IsPut : (ℕ → Bool) → Instr → Type 0
IsPut for_results (instr.Store s) = for_results s ≡ true
IsPut for_results instr.Drop = Unit {0}
IsPut for_results _ = ⊥

abbrev pub PutsAway : (ℕ → Bool) → Option Line → Type 0
PutsAway for_results None = ⊥
PutsAway for_results (Some l) = IsPut for_results l.instr

abbrev pub IsApart : (ℕ → Bool) → LaunchArg → Type 0
IsApart for_results (launch_arg.Keep s) = for_results s ≡ false
IsApart for_results _ = Unit {0}

abbrev pub AreApart : (ℕ → Bool) → List LaunchArg → Type 0
AreApart for_results [] = Unit {0}
AreApart for_results (a ∷ args) = IsApart for_results a × AreApart for_results args

-- an instruction, with the next one
abbrev pub IsTidyAt : (ℕ → Bool) → Instr → Option Line → Type 0
IsTidyAt for_results (instr.Call task n) after = PutsAway for_results after
IsTidyAt for_results (instr.Launch task s line args) after = AreApart for_results args
IsTidyAt for_results (instr.NextNumber c l v to) after = (for_results c ≡ false) × (for_results l ≡ false)
IsTidyAt for_results (instr.NextPoint s c v ptr to) after = for_results c ≡ false
IsTidyAt for_results _ after = Unit {0}

abbrev pub IsTidy : (ℕ → Bool) → List Line → Type 0
IsTidy for_results body = (pc : ℕ) (l : Line) → fetch body pc ≡ Some l →
    IsTidyAt for_results l.instr (fetch body (suc pc))

-- ---- where pending children are

abbrev pub AreSettled : List Value → Type 0
AreSettled [] = Unit {0}
AreSettled (v ∷ vs) = (is_pending v ≡ false) × AreSettled vs

-- in slots that are for results, and their results are known
abbrev pub ArePutAway : (ℕ → Bool) → ℕ → List Value → Type 0
ArePutAway for_results count slots = (s n : ℕ) → slice_get slots s ≡ Some (Pending n) →
    (for_results s ≡ true) × (n < count)

-- on the stack only directly after a call, where it is put away
pub data OnStack (for_results : ℕ → Bool) (count : ℕ) (here : Option Line) : List Value → Type 0 where
  settled_stack : (st : List Value) → AreSettled st → OnStack for_results count here st
  called_child : (n : ℕ) (st : List Value) → AreSettled st → n < count → PutsAway for_results here →
      OnStack for_results count here (Pending n ∷ st)

pub record Suits (for_results : ℕ → Bool) (body : List Line) (i : Instance) : Type 0 where
  pub slots : ArePutAway for_results (length i.results) i.frame.slots
  pub stack : OnStack for_results (length i.results) (fetch body i.frame.pc) i.frame.stack
  pub children : i.frame.children ≡ length i.results
