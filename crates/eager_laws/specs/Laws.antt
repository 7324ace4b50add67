-- An instance that ends in the eager run ends the same way on the machine.
use Rattle.std.specs.Prelude.{◌≡◌, ℕ, List, Bool, true, None, Some, slice_get, length, ◌==◌}
use Rattle.region_tree.specs.Requirements.{Requirement}
use Rattle.task_code.specs.declared.code.Line.{Line}
use Rattle.task_code.specs.declared.code.TaskCode.{TaskCode}
use Rattle.machine_terms.specs.declared.order.Contents.{Contents}
use Rattle.machine_terms.specs.declared.order.Ended.{Ended}
use Rattle.machine_terms.specs.declared.order.Ended.TheVariants.{Broke}
use Rattle.machine_terms.specs.declared.order.Instance.{Instance}
use Rattle.machine_terms.specs.declared.value.Value.{Value}
use Rattle.machine_terms.specs.Opening.{opening}
use Rattle.machine_terms.specs.Orders.{begun, enough_segments, run_segments}
use Rattle.eager_laws.specs.Steps.{Ends, Running, advance, advance_eager}
use Rattle.eager_laws.specs.Pendings.{AreSettled, IsTidy, Suits, seen}

-- it returns, or faults
abbrev pub IsWhole : Ended → Type 0
IsWhole e = (text : List ℕ) → e ≡ Broke None text → ⊥

-- an instance of the task whose body is run, to which no fault is due
pub record IsIn (x : Running) (t : TaskCode) (i : Instance) : Type 0 where
  pub task : slice_get x.code.tasks i.frame.task ≡ Some t
  pub body : t.body ≡ x.body
  pub slots : (length i.frame.slots == t.slots) ≡ true
  pub later : i.frame.later ≡ None

-- If the code is tidy, an instance that ends in the eager run ends the same way on the machine.
abbrev pub EagerRunsCarry : Type 0
EagerRunsCarry = (x : Running) (for_results : ℕ → Bool) → IsTidy for_results x.body →
    (i : Instance) → Suits for_results x.body i → (e : Ended) → IsWhole e →
    Ends (advance_eager x) (seen i) e → Ends (advance x) i e

-- The same holds by segments, within their bound, for an instance of the task that has this body.
abbrev pub EagerRunsGive : Type 0
EagerRunsGive = (x : Running) (for_results : ℕ → Bool) → IsTidy for_results x.body →
    (t : TaskCode) (i : Instance) → IsIn x t i → Suits for_results x.body i → (e : Ended) → IsWhole e →
    Ends (advance_eager x) (seen i) e → run_segments x.code x.turns x.child (enough_segments x.code i.frame) i ≡ e

-- An instance that begins with settled arguments suits the code, and resolving it changes nothing.
abbrev pub InstancesBegin : Type 0
InstancesBegin = (for_results : ℕ → Bool) (body : List Line) (turns depth task : ℕ) (t : TaskCode) (vs : List Value)
    (needs : List Requirement) (contents : Contents) → AreSettled vs →
    Suits for_results body (begun (opening turns depth task t vs) needs contents)
    × (seen (begun (opening turns depth task t vs) needs contents) ≡ begun (opening turns depth task t vs) needs contents)
