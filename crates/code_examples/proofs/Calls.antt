-- By computing.
use Rattle.std.specs.Prelude.{refl}
use Rattle.std.specs.Int.{int_wrap}
use Rattle.std.specs.Fmt.{digits}
use Rattle.code_examples.specs.Calls.{writes_by_parts_runs, overlapping_arguments_runs, call_between_runs, fault_in_loop_runs, first_fault_runs}

pub writes_by_parts_runs_hold : writes_by_parts_runs
unfolding int_wrap digits
writes_by_parts_runs_hold = refl

pub overlapping_arguments_runs_hold : overlapping_arguments_runs
unfolding int_wrap digits
overlapping_arguments_runs_hold = refl

pub call_between_runs_hold : call_between_runs
unfolding int_wrap digits
call_between_runs_hold = refl

pub fault_in_loop_runs_hold : fault_in_loop_runs
unfolding int_wrap digits
fault_in_loop_runs_hold = refl

pub first_fault_runs_hold : first_fault_runs
unfolding int_wrap digits
first_fault_runs_hold = refl
