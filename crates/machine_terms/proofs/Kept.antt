-- What steps, runs and segments leave as it is.
use Rattle.std.proofs.Common.{◌≡◌, ℕ, zero, suc, List, [], ◌++◌, Bool, true, false, Option, Some, None, refl, ap, ◌∙◌, ◌==◌}
use Rattle.std.specs.Prelude.{slice_get, length}
use Rattle.regent_tree.specs.declared.outcome.Fault.{Fault}
use Rattle.task_code.specs.declared.code.Code.{Code}
use Rattle.task_code.specs.declared.code.Line.{Line}
use Rattle.task_code.specs.declared.code.TaskCode.{TaskCode}
use Rattle.machine_terms.specs.declared.frame.Before.{Before}
use Rattle.machine_terms.specs.declared.frame.Frame.{Frame}
use Rattle.machine_terms.specs.declared.outcome.Yield.TheVariants as yield
use Rattle.machine_terms.specs.declared.value.Value.{Value}
use Rattle.machine_terms.specs.Jumps.{fetch}
use Rattle.machine_terms.specs.Machine.{Machine, Stepped, goes, prints, stops}
use Rattle.machine_terms.specs.Segments.{Stopped, act_at, enough, on_stop, opened, run, step, stop_of, stopped_by, stopped_in}
use Rattle.machine_terms.proofs.StepKinds.{Asking, Fixed, IsOver, Kind, over, called, makes, wants, awaits, nexted, printed, jumped, turned, fixed, is_launch, steady_fixed, key_of, slot_of}
use Rattle.machine_terms.proofs.InstructionKinds.{act_kind}

-- ---- steps

-- what the instruction on a line may ask for, and the one at a frame's place
abbrev pub key_at : Option Line → Frame → Option (ℕ × ℕ)
key_at (Some l) f = key_of l.instr f
key_at None f = None

abbrev pub slot_at : Option Line → Frame → Option Value
slot_at (Some l) f = slot_of l.instr f
slot_at None f = None

abbrev pub launch_at : Option Line → Bool
launch_at (Some l) = is_launch l.instr
launch_at None = false

abbrev pub asking : List Line → Option Line → Frame → Asking
asking body o f = record { body = body; key = key_at o f; slot = slot_at o f; launch = launch_at o }

abbrev pub asked : List Line → Frame → Asking
asked body f = asking body (fetch body f.pc) f

line_kind : (code : Code) (body : List Line) (o : Option Line) (m : Machine) →
    Kind (asking body o m.frame) m (act_at code body o m)
line_kind code body None m = over yield.MachineFault m tt (fixed m)
line_kind code body (Some l) m =
    act_kind (asking body (Some l) m.frame) code l.instr l.line m refl refl refl

pub step_kind : (code : Code) (body : List Line) (m : Machine) →
    Kind (asked body m.frame) m (step code body m)
step_kind code body m = line_kind code body (fetch body m.frame.pc) m

-- the fault that is kept for later stays, but behind a launch
abbrev pub KeepsLater : Asking → Machine → Stepped → Type 0
KeepsLater ask f (goes m) = m.frame.later ≡ f.frame.later
KeepsLater ask f (prints t m) = m.frame.later ≡ f.frame.later
KeepsLater ask f (stops y m) = ask.launch ≡ false → (IsOver y → ⊥) → m.frame.later ≡ f.frame.later

pub later_kept : (ask : Asking) (f : Machine) (s : Stepped) → Kind ask f s → KeepsLater ask f s
later_kept ask f _ (over y m o e) = λ n more. absurd (more o)
later_kept ask f _ (called cs m e a b c k) = λ n more. k n
later_kept ask f _ (makes d m e a b) = λ n more. e.later
later_kept ask f _ (wants r g m e same a b) = λ n more. ap (λ (x : Frame). x.later) same
later_kept ask f _ (awaits n a) = λ n more. refl
later_kept ask f _ (nexted m e a b) = e.later
later_kept ask f _ (printed t m e a b) = e.later
later_kept ask f _ (jumped m e a b) = e.later
later_kept ask f _ (turned m e a) = e.later

-- ---- runs and segments

fixed_then : (f g h : Machine) → Fixed f g → Fixed g h → Fixed f h
fixed_then f g h a b = record {
  task = b.task ∙ a.task;
  slots = b.slots ∙ a.slots;
  depth = b.depth ∙ a.depth;
  own = b.own ∙ a.own;
  needs = b.needs ∙ a.needs;
  parts = b.parts ∙ a.parts;
  fits = λ h. b.fits (a.fits h);
}

then_fixed : (ask : Asking) (m : Machine) (s : Stepped) (text : List ℕ) (more : List ℕ → Machine → Stopped) →
    Kind ask m s → ((t : List ℕ) (x : Machine) → Fixed x (more t x).machine) →
    Fixed m (on_stop s text more).machine
then_fixed ask m _ text more (over y x o f) k = f
then_fixed ask m _ text more (called o x f a b c d) k = f
then_fixed ask m _ text more (makes d x f a b) k = steady_fixed m x f
then_fixed ask m _ text more (wants r g x f a b c) k = f
then_fixed ask m _ text more (awaits n a) k = fixed m
then_fixed ask m _ text more (nexted x f a b) k = fixed_then m x _ (steady_fixed m x f) (k text x)
then_fixed ask m _ text more (printed t x f a b) k = fixed_then m x _ (steady_fixed m x f) (k (text ++ t) x)
then_fixed ask m _ text more (jumped x f a b) k = fixed_then m x _ (steady_fixed m x f) (k text x)
then_fixed ask m _ text more (turned x f a) k = fixed_then m x _ (steady_fixed m x f) (k text x)

run_fixed : (code : Code) (body : List Line) (k : ℕ) (text : List ℕ) (m : Machine) →
    Fixed m (run code body k text m).machine
run_fixed code body zero text m = fixed m
run_fixed code body (suc k) text m =
    then_fixed (asked body m.frame) m (step code body m) text (run code body k) (step_kind code body m)
    (λ t x. run_fixed code body k t x)

-- a segment, by whether the slots are as many as the task's
abbrev pub by_slots : Bool → Code → TaskCode → Machine → Stopped
by_slots q code t m = elim q [
  | true ↦ stopped_by m.frame.later code t m
  | false ↦ stopped_in None code m
]

by_fixed : (o : Option Fault) (code : Code) (t : TaskCode) (m : Machine) →
    Fixed m (stopped_by o code t m).machine
by_fixed None code t m = run_fixed code t.body (enough t.body m.frame) [] m
by_fixed (Some f) code t m = fixed m

in_fixed : (o : Option TaskCode) (code : Code) (m : Machine) → Fixed m (stopped_in o code m).machine
in_fixed None code m = fixed m
in_fixed (Some t) code m = choice (length m.frame.slots == t.slots)
  where
    choice : (q : Bool) → Fixed m (by_slots q code t m).machine
    choice true = by_fixed m.frame.later code t m
    choice false = fixed m

pub stop_fixed : (b : Before) → Fixed (opened b) (stop_of b).machine
stop_fixed b = in_fixed (slice_get b.code.tasks b.frame.task) b.code (opened b)
