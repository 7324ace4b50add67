-- The run in order of a job.
use Rattle.std.specs.Prelude.{List, [], Bool, cond, Option, Some, None, slice_get, length, map, ◌==◌, ◌&&◌, nat_le}
use Rattle.region_tree.specs.declared.tree.RootId.{RootId}
use Rattle.regent_tree.specs.declared.outcome.Ending.{Ending}
use Rattle.regent_tree.specs.declared.outcome.Ending.TheVariants.{Finished, Faulted, Broken}
use Rattle.regent_tree.specs.declared.outcome.Fault.{Fault}
use Rattle.regent_tree.specs.declared.outcome.Outcome.{Outcome}
use Rattle.task_code.specs.declared.job.Job.{Job}
use Rattle.task_code.specs.declared.code.TaskCode.{TaskCode}
use Rattle.machine_terms.specs.declared.frame.Frame.{Frame}
use Rattle.machine_terms.specs.declared.order.Contents.{Contents}
use Rattle.machine_terms.specs.declared.order.Ended.{Ended}
use Rattle.machine_terms.specs.declared.order.Ended.TheVariants.{CameBack, Broke}
use Rattle.machine_terms.specs.declared.value.Value.TheVariants.{Number}
use Rattle.machine_terms.specs.Contents.{image_of, no_contents}
use Rattle.machine_terms.specs.Opening.{opening}
use Rattle.machine_terms.specs.Orders.{begun, runs}

-- ---- outcomes

-- what the roots hold that the first task made
abbrev pub images_of : List RootId → Contents → Ending
images_of own contents = Finished (map (λ (r : RootId). image_of contents r.0) own)

abbrev pub ending_of : Option Fault → Ending
ending_of (Some f) = Faulted f
ending_of None = Broken

abbrev pub outcome : Ended → Outcome
outcome (CameBack v own contents text) =
    record { text = text; ending = images_of own contents }
outcome (Broke fault text) = record { text = text; ending = ending_of fault }

-- ---- void jobs

-- A job is void where its start is no task, or one with a need, another number of parameters than
-- there are inputs, or fewer slots than parameters.
abbrev pub may_start : Job → TaskCode → Bool
may_start job t = (length t.needs == 0) && (length job.inputs == t.params) && nat_le t.params t.slots

abbrev pub void_outcome : Outcome
void_outcome = record { text = []; ending = Broken }

-- ---- the run

-- the frame of the first task: the inputs are its arguments
abbrev pub first_frame : Job → TaskCode → Frame
first_frame job t = opening job.turns 1 job.code.start t (map Number job.inputs)

abbrev pub run_first : Job → Option TaskCode → Outcome
run_first job None = void_outcome
run_first job (Some t) = cond (may_start job t)
    (outcome (runs job.code job.turns 64 (begun (first_frame job t) [] no_contents))) void_outcome

abbrev pub order_run : Job → Outcome
order_run job = run_first job (slice_get job.code.tasks job.code.start)
