-- By computing.
use Rattle.std.specs.Prelude.{refl}
use Rattle.std.specs.Int.{int_wrap}
use Rattle.std.specs.Fmt.{digits}
use Rattle.code_examples.specs.Numbers.{assignment_runs, narrow_product_runs, empty_task_runs, signed_division_runs, input_printed_runs}

pub assignment_runs_hold : assignment_runs
unfolding int_wrap digits
assignment_runs_hold = refl

pub narrow_product_runs_hold : narrow_product_runs
unfolding int_wrap digits
narrow_product_runs_hold = refl

pub empty_task_runs_hold : empty_task_runs
unfolding int_wrap digits
empty_task_runs_hold = refl

pub signed_division_runs_hold : signed_division_runs
unfolding int_wrap digits
signed_division_runs_hold = refl

pub input_printed_runs_hold : input_printed_runs
unfolding int_wrap digits
input_printed_runs_hold = refl
