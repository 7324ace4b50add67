use Rattle.std.specs.Prelude.{refl}
use Rattle.std.specs.Int.{int_wrap}
use Rattle.std.specs.Fmt.{digits}
use Rattle.worked_examples.specs.Calls.{writes_by_parts_means, overlapping_arguments_means, call_between_means, fault_in_loop_means, first_fault_means}

pub writes_by_parts_holds : writes_by_parts_means
unfolding int_wrap digits
writes_by_parts_holds = refl

pub overlapping_arguments_holds : overlapping_arguments_means
unfolding int_wrap digits
overlapping_arguments_holds = refl

pub call_between_holds : call_between_means
unfolding int_wrap digits
call_between_holds = refl

pub fault_in_loop_holds : fault_in_loop_means
unfolding int_wrap digits
fault_in_loop_holds = refl

pub first_fault_holds : first_fault_means
unfolding int_wrap digits
first_fault_holds = refl
