-- What a segment wants is a part that its frame needs and that isn't held.
use Rattle.std.proofs.Common.{◌==◌, ◌++◌, ℕ, zero, suc, List, [], Bool, true, false, Option, Some, None, sym}
use Rattle.std.specs.Prelude.{length, slice_get}
use Rattle.regent_tree.specs.declared.outcome.Fault.{Fault}
use Rattle.task_code.specs.declared.code.Code.{Code}
use Rattle.task_code.specs.declared.code.Line.{Line}
use Rattle.task_code.specs.declared.code.TaskCode.{TaskCode}
use Rattle.machine_terms.specs.declared.frame.Before.{Before}
use Rattle.machine_terms.specs.declared.outcome.Yield.{Yield}
use Rattle.machine_terms.specs.declared.outcome.Yield.TheVariants as yield
use Rattle.machine_terms.specs.Machine.{Machine, Stepped, goes, prints, stops}
use Rattle.machine_terms.specs.Segments.{Stopped, enough, on_stop, opened, run, step, stop_of, stopped_by, stopped_in}
use Rattle.machine_terms.proofs.KeptParts.{IsMissing, missing_alike}
use Rattle.machine_terms.proofs.Kept.{asked, by_slots, step_kind}
use Rattle.machine_terms.proofs.StepKinds.{IsOver, Kind, awaits, called, jumped, makes, nexted, over, printed, turned, wants}

abbrev pub IsAsked : Yield → Machine → Type 0
IsAsked (yield.Want r field) m = IsMissing m r.0 field
IsAsked _ m = Unit {0}

abbrev StepIsAsked : Stepped → Type 0
StepIsAsked (stops y m) = IsAsked y m
StepIsAsked _ = Unit {0}

over_asked : (y : Yield) (m : Machine) → IsOver y → IsAsked y m
over_asked (yield.Calls cs) m o = absurd o
over_asked (yield.Make d) m o = absurd o
over_asked (yield.Want r g) m o = absurd o
over_asked (yield.Await n) m o = absurd o
over_asked (yield.End v) m o = tt
over_asked (yield.Fault f) m o = tt
over_asked yield.MachineFault m o = tt

module _ (code : Code) (body : List Line) where
  by_kind : (m : Machine) (s : Stepped) → Kind (asked body m.frame) m s → StepIsAsked s
  by_kind m _ (over y x o f) = over_asked y x o
  by_kind m _ (called cs x f a b c k) = tt
  by_kind m _ (makes d x f a b) = tt
  by_kind m _ (wants r g x f same k missing) = missing_alike m x r.0 g (sym same) (sym f.parts) missing
  by_kind m _ (awaits n a) = tt
  by_kind m _ (nexted x f a b) = tt
  by_kind m _ (printed t x f a b) = tt
  by_kind m _ (jumped x f a b) = tt
  by_kind m _ (turned x f a) = tt

  stop_asked : (s : Stepped) (text : List ℕ) (more : List ℕ → Machine → Stopped) → StepIsAsked s →
      ((t : List ℕ) (m : Machine) → IsAsked (more t m).ends (more t m).machine) →
      IsAsked (on_stop s text more).ends (on_stop s text more).machine
  stop_asked (goes m) text more h k = k text m
  stop_asked (prints t m) text more h k = k (text ++ t) m
  stop_asked (stops y m) text more h k = h

  run_asked : (k : ℕ) (text : List ℕ) (m : Machine) → IsAsked (run code body k text m).ends (run code body k text m).machine
  run_asked zero text m = tt
  run_asked (suc k) text m = stop_asked (step code body m) text (run code body k)
      (by_kind m (step code body m) (step_kind code body m)) (λ t x. run_asked k t x)

by_fault : (o : Option Fault) (code : Code) (t : TaskCode) (m : Machine) →
    IsAsked (stopped_by o code t m).ends (stopped_by o code t m).machine
by_fault None code t m = run_asked code t.body (enough t.body m.frame) [] m
by_fault (Some f) code t m = tt

by_task : (o : Option TaskCode) (code : Code) (m : Machine) → IsAsked (stopped_in o code m).ends (stopped_in o code m).machine
by_task None code m = tt
by_task (Some t) code m = choice (length m.frame.slots == t.slots)
  where
    choice : (q : Bool) → IsAsked (by_slots q code t m).ends (by_slots q code t m).machine
    choice true = by_fault m.frame.later code t m
    choice false = tt

pub segments_ask : (b : Before) → IsAsked (stop_of b).ends (stop_of b).machine
segments_ask b = by_task (slice_get b.code.tasks b.frame.task) b.code (opened b)
