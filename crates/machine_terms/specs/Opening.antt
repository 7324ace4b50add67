-- How a task instance begins, and what it needs.
use Rattle.std.specs.Prelude.{ℕ, pos, List, [], ◌∷◌, ◌++◌, cond, Option, Some, None, slice_get, replicate, length, nat_lt, ◌-◌}
use Rattle.region_tree.specs.declared.needs.Need.{Need}
use Rattle.region_tree.specs.Requirements.{Requirement}
use Rattle.task_code.specs.declared.code.Code.{Code}
use Rattle.task_code.specs.declared.code.NeedCode.{NeedCode}
use Rattle.task_code.specs.declared.code.TaskCode.{TaskCode}
use Rattle.machine_terms.specs.declared.frame.Frame.{Frame}
use Rattle.machine_terms.specs.declared.order.Contents.{Contents}
use Rattle.machine_terms.specs.declared.value.RegionValue.{RegionValue}
use Rattle.machine_terms.specs.declared.value.Value.{Value}
use Rattle.machine_terms.specs.declared.value.Value.TheVariants.{Number}
use Rattle.machine_terms.specs.Pointers.{region_in}
use Rattle.machine_terms.specs.Contents.{image_of, kinds_of}

-- One more in front of a list, where a region has points. What has none is never needed: nothing can
-- be copied out for it, so that a task would want it for ever.
abbrev pub with_points : {A : Type 0} → List ℕ → A → List A → List A
with_points [] a rest = rest
with_points (x ∷ xs) a rest = a ∷ rest

-- what a declared need is on the arguments
abbrev pub need_on : NeedCode → Option RegionValue → List Need → List Need
need_on n (Some r) rest = with_points r.points
    (record { root = r.root; node = r.node; field = n.field; mode = n.mode }) rest
need_on n None rest = rest

abbrev pub needs_on : List NeedCode → List Value → List Need
needs_on [] vs = []
needs_on (n ∷ ns) vs = need_on n (region_in (slice_get vs n.param)) (needs_on ns vs)

-- The same with the points; None where a parameter is no region or its root has no such field.
abbrev pub required_before :
    Option Requirement → Option (List Requirement) → Option (List Requirement)
required_before (Some r) (Some rs) = Some (with_points r.points r rs)
required_before _ _ = None

abbrev pub required_on : Code → Contents → NeedCode → Option RegionValue → Option Requirement
required_on code contents n None = None
required_on code contents n (Some r) =
    cond (nat_lt n.field (length (kinds_of code (image_of contents r.root.0).space)))
    (Some (record { root = r.root.0; points = r.points; field = n.field; mode = n.mode })) None

abbrev pub requirements_on :
    Code → Contents → List NeedCode → List Value → Option (List Requirement)
requirements_on code contents [] vs = Some []
requirements_on code contents (n ∷ ns) vs =
    required_before (required_on code contents n (region_in (slice_get vs n.param)))
    (requirements_on code contents ns vs)

-- the frame in which a task begins: the arguments in the first slots, 0 in the others
abbrev pub opening : ℕ → ℕ → ℕ → TaskCode → List Value → Frame
opening turns depth task t vs = record {
  task = task;
  pc = 0;
  slots = vs ++ replicate (t.slots - length vs) (Number (pos 0));
  stack = [];
  turns = turns;
  depth = depth;
  needs = record { items = needs_on t.needs vs };
  own = [];
  children = 0;
  later = None;
}
