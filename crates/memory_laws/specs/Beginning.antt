-- Laws of a task instance that begins.
use Rattle.std.specs.Prelude.{◌≡◌, List, [], true, Some}
use Rattle.region_tree.specs.Requirements.{Requirement, is_within}
use Rattle.regent_tree.specs.Store.{Store}
use Rattle.task_code.specs.declared.code.Code.{Code}
use Rattle.task_code.specs.declared.code.NeedCode.{NeedCode}
use Rattle.machine_terms.specs.declared.frame.Frame.{Frame}
use Rattle.machine_terms.specs.declared.order.Instance.{Instance}
use Rattle.machine_terms.specs.declared.value.Value.{Value}
use Rattle.machine_terms.specs.Contents.{no_contents}
use Rattle.machine_terms.specs.Opening.{needs_on, requirements_on}
use Rattle.machine_terms.specs.Orders.{begun, give_all}
use Rattle.memory_laws.specs.Memory.{memory_of, Holds}

-- The first task has the store without roots.
abbrev pub FirstHolds : Type 0
FirstHolds = (code : Code) (f : Frame) → Holds code [] (memory_of (begun f [] no_contents))

-- A child whose needs are within its caller's has the caller's store, when the parts have gone back.
abbrev pub BegunHolds : Type 0
BegunHolds = (code : Code) (store : Store) (i : Instance) (f : Frame) (declared : List NeedCode)
    (args : List Value) (needs : List Requirement) → Holds code store (memory_of i) →
    f.needs.items ≡ needs_on declared args →
    requirements_on code (give_all i).contents declared args ≡ Some needs →
    is_within needs i.needs ≡ true →
    Holds code store (memory_of (begun f needs (give_all i).contents))
