-- Where an instance ends within a number of steps, it ends within fewer behind each segment.
use Rattle.std.proofs.Common.{◌≡◌, ℕ, zero, suc, ◌<◌, List, [], ◌++◌, Bool, true, false, Option, Some, None, sym, subst, arith, ◌==◌}
use Rattle.std.specs.Prelude.{slice_get, length}
use Rattle.regent_tree.specs.declared.outcome.Fault.{Fault}
use Rattle.task_code.specs.declared.code.Code.{Code}
use Rattle.task_code.specs.declared.code.Line.{Line}
use Rattle.task_code.specs.declared.code.TaskCode.{TaskCode}
use Rattle.machine_terms.specs.declared.frame.Before.{Before}
use Rattle.machine_terms.specs.Machine.{Machine, Stepped, goes, prints, stops}
use Rattle.machine_terms.specs.Segments.{step, run, on_stop, enough, Stopped, opened, stopped_by, stopped_in, stop_of}
use Rattle.machine_terms.proofs.Kept.{by_slots}
use Rattle.order_laws.proofs.Waits.{AfterStep, AfterStop, Within}

module _ (code : Code) (body : List Line) where
  -- a stop, from which it goes on and ends within fewer steps
  pub record Sooner (n : ℕ) (s : Stopped) : Type 0 where
    pub steps : ℕ
    pub fewer : steps < n
    pub goes_on : AfterStop (Within code body steps) s.ends s.machine

  sooner_more : (n : ℕ) (s : Stopped) → Sooner n s → Sooner (suc n) s
  sooner_more n s w =
      record { steps = w.steps; fewer = omega (arith, w.fewer); goes_on = w.goes_on }

  stop_step : (n : ℕ) (s : Stepped) (text : List ℕ) (more : List ℕ → Machine → Stopped) →
      AfterStep (Within code body n) s →
      ((t : List ℕ) (m : Machine) → Within code body n m → Sooner n (more t m)) →
      Sooner (suc n) (on_stop s text more)
  stop_step n (goes m) text more w k = sooner_more n _ (k text m w)
  stop_step n (prints t m) text more w k = sooner_more n _ (k (text ++ t) m w)
  stop_step n (stops y m) text more w k = record { steps = n; fewer = omega arith; goes_on = w }

  run_sooner : (k n : ℕ) (text : List ℕ) (m : Machine) → Within code body n m →
      Sooner n (run code body k text m)
  run_sooner k zero text m w = absurd w
  run_sooner zero (suc n) text m w = record { steps = n; fewer = omega arith; goes_on = tt }
  run_sooner (suc k) (suc n) text m w = stop_step n (step code body m) text (run code body k) w
      (λ t x v. run_sooner k n t x v)

by_sooner : (o : Option Fault) (code : Code) (t : TaskCode) (n : ℕ) (m : Machine) →
    Within code t.body (suc n) m → Sooner code t.body (suc n) (stopped_by o code t m)
by_sooner None code t n m w = run_sooner code t.body (enough t.body m.frame) (suc n) [] m w
by_sooner (Some f) code t n m w = record { steps = n; fewer = omega arith; goes_on = tt }

in_sooner : (code : Code) (t : TaskCode) (n : ℕ) (m : Machine) → Within code t.body (suc n) m →
    Sooner code t.body (suc n) (stopped_in (Some t) code m)
in_sooner code t n m w = choice (length m.frame.slots == t.slots)
  where
    choice : (q : Bool) → Sooner code t.body (suc n) (by_slots q code t m)
    choice true = by_sooner m.frame.later code t n m w
    choice false = record { steps = n; fewer = omega arith; goes_on = tt }

pub stop_sooner : (b : Before) (t : TaskCode) (n : ℕ) → slice_get b.code.tasks b.frame.task ≡ Some t →
    Within b.code t.body n (opened b) → Sooner b.code t.body n (stop_of b)
stop_sooner b t zero e w = absurd w
stop_sooner b t (suc n) e w =
    subst (λ o. Sooner b.code t.body (suc n) (stopped_in o b.code (opened b))) (sym e)
    (in_sooner b.code t n (opened b) w)
