-- Whether a new board has an outcome.
use Rattle.std.proofs.Common.{◌≡◌, ◌∙◌, Bool, true, false, [], None, Option, Some, ap, cond, refl, slice_get, sym}
use Rattle.regent_tree.specs.declared.outcome.Outcome.{Outcome}
use Rattle.regent_tree.specs.declared.outcome.Ending.TheVariants.{Broken}
use Rattle.machine_terms.specs.Jobs.{first_frame, may_start}
use Rattle.machine_terms.specs.declared.frame.Frame.{Frame}
use Rattle.task_code.specs.declared.code.TaskCode.{TaskCode}
use Rattle.task_code.specs.declared.job.Job.{Job}
use Rattle.board_terms.specs.Outcomes.{result}
use Rattle.board_terms.specs.Stages.{is_over, stage_at}
use Rattle.board_terms.specs.States.{opened, opened_with, void_state, with_main}

abbrev pub broken : Outcome
broken = record { text = []; ending = Broken }

void_broken : result void_state ≡ Some broken
void_broken = refl

void_over : is_over (stage_at void_state 0) ≡ true
void_over = refl

main_open : (f : Frame) → is_over (stage_at (with_main f) 0) ≡ false
main_open f = refl

main_untold : (f : Frame) → result (with_main f) ≡ None
main_untold f = refl

abbrev pub told_by : Bool → Option Outcome
told_by true = Some broken
told_by false = None

by_start : (job : Job) (t : TaskCode) (b : Bool) → result (cond b (with_main (first_frame job t)) void_state)
    ≡ told_by (is_over (stage_at (cond b (with_main (first_frame job t)) void_state) 0))
by_start job t true = main_untold (first_frame job t) ∙ sym (ap told_by (main_open (first_frame job t)))
by_start job t false = void_broken ∙ sym (ap told_by void_over)

by_task : (job : Job) (o : Option TaskCode) → result (opened_with job o) ≡ told_by (is_over (stage_at (opened_with job o) 0))
by_task job None = void_broken ∙ sym (ap told_by void_over)
by_task job (Some t) = by_start job t (may_start job t)

-- broken where main is over, and else it has none
pub opened_told : (job : Job) → result (opened job) ≡ told_by (is_over (stage_at (opened job) 0))
opened_told job = by_task job (slice_get job.code.tasks job.code.start)
