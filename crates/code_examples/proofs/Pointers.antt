-- By computing.
use Rattle.std.specs.Prelude.{refl}
use Rattle.std.specs.Int.{int_wrap}
use Rattle.std.specs.Fmt.{digits}
use Rattle.code_examples.specs.Pointers.{null_pointer_runs, outside_region_runs, positions_runs, circuit_runs, pointer_arithmetic_runs, null_on_the_right_runs, null_on_the_left_runs}

pub null_pointer_runs_hold : null_pointer_runs
unfolding int_wrap digits
null_pointer_runs_hold = refl

pub outside_region_runs_hold : outside_region_runs
unfolding int_wrap digits
outside_region_runs_hold = refl

pub positions_runs_hold : positions_runs
unfolding int_wrap digits
positions_runs_hold = refl

pub circuit_runs_hold : circuit_runs
unfolding int_wrap digits
circuit_runs_hold = refl

pub pointer_arithmetic_runs_hold : pointer_arithmetic_runs
unfolding int_wrap digits
pointer_arithmetic_runs_hold = refl

pub null_on_the_right_runs_hold : null_on_the_right_runs
unfolding int_wrap digits
null_on_the_right_runs_hold = refl

pub null_on_the_left_runs_hold : null_on_the_left_runs
unfolding int_wrap digits
null_on_the_left_runs_hold = refl
