-- An instance that ends in the eager run ends the same way in the run in order, by segments.
use Rattle.std.proofs.Common.{◌≡◌, ℕ, ℤ, List, [], ◌∷◌, Bool, true, false, Option, Some, None, refl, sym, ap, ◌∙◌, map}
use Rattle.std.specs.Prelude.{length, slice_get, ◌==◌}
use Rattle.std.proofs.lemmas.Bool.{false≢true}
use Rattle.std.proofs.lemmas.Option.{none-some}
use Rattle.region_tree.specs.Requirements.{Requirement}
use Rattle.region_tree.specs.declared.tree.RootId.{RootId}
use Rattle.regent_tree.specs.Running.{Called}
use Rattle.regent_tree.specs.Store.{Store}
use Rattle.regent_tree.specs.Syntax.{Tree}
use Rattle.regent_tree.specs.Values.{Value}
use Rattle.regent_tree.specs.declared.outcome.Fault.{Fault}
use Rattle.task_code.specs.declared.code.Code.{Code}
use Rattle.task_code.specs.declared.code.TaskCode.{TaskCode}
use Rattle.machine_terms.specs.declared.order.Contents.{Contents}
use Rattle.machine_terms.specs.declared.order.Ended.{Ended}
use Rattle.machine_terms.specs.declared.order.Ended.TheVariants.{Broke, CameBack}
use Rattle.machine_terms.specs.declared.value.Value.{Value as MachineValue}
use Rattle.machine_terms.specs.Opening.{opening}
use Rattle.machine_terms.specs.Orders.{begun, enough_segments, run_segments}
use Rattle.eager_laws.specs.Laws.{IsWhole}
use Rattle.eager_laws.specs.Steps.{advance_eager, run_by}
use Rattle.eager_laws.specs.Pendings.{AreSettled, IsTidy}
use Rattle.eager_laws.proofs.Carrying.{instances_begin, eager_runs_give}
use Rattle.code_laws.specs.Standing.{Matches, both_back, both_broke, machine_value}
use Rattle.code_laws.specs.Steps.{Ends, Setting, running}
use Rattle.code_laws.proofs.States.{ready_value}

-- no value is a pending child
pub values_settled : (c : Contents) (vs : List Value) → AreSettled (map (machine_value c) vs)
values_settled c [] = tt
values_settled c (v ∷ vs) = (ready_value c v, values_settled c vs)

-- an end with a value, and one with a fault, are whole
abbrev comes : Ended → Bool
comes (CameBack v own c text) = true
comes (Broke f text) = false

abbrev fault_in : Ended → Option Fault
fault_in (Broke f text) = f
fault_in (CameBack v own c text) = None

pub back_whole : (v : Option ℤ) (own : List RootId) (c : Contents) (text : List ℕ) → IsWhole (CameBack v own c text)
back_whole v own c text more e = false≢true (sym (ap comes e))

pub fault_whole : (f : Fault) (text : List ℕ) → IsWhole (Broke (Some f) text)
fault_whole f text more e = none-some f (sym (ap fault_in e))

pub match_whole : (tree : Tree) (code : Code) (R : Value → Type 0) (store : Store) (before : List ℕ) (d : Called) (e : Ended) →
    Matches tree code R store before d e → IsWhole e
match_whole tree code R store before _ _ (both_back v after text result own c r q same kept stands is) = back_whole result own c text
match_whole tree code R store before _ _ (both_broke f text) = fault_whole f text

module _ (x : Setting) (for_results : ℕ → Bool) (tidy : IsTidy for_results x.body) where
  pub eager_gives : (t : TaskCode) (turns depth task : ℕ) (ms : List MachineValue) (needs : List Requirement) (c : Contents) →
      AreSettled ms → slice_get x.code.tasks task ≡ Some t → t.body ≡ x.body →
      (length (opening turns depth task t ms).slots == t.slots) ≡ true → (e : Ended) → IsWhole e →
      Ends x (begun (opening turns depth task t ms) needs c) e →
      run_segments x.code x.turns x.child (enough_segments x.code (opening turns depth task t ms)) (begun (opening turns depth task t ms) needs c) ≡ e
  eager_gives t turns depth task ms needs c settled there body slots e whole ends =
      let b = instances_begin for_results x.body turns depth task t ms needs c settled in
      eager_runs_give (running x) for_results tidy t (begun (opening turns depth task t ms) needs c)
      (record { task = there; body = body; slots = slots; later = refl }) b.0 e whole
      (record { steps = ends.steps; by = λ k n q. ap (run_by (advance_eager (running x)) n) b.1 ∙ ends.by k n q })
