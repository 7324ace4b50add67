-- By computing.
use Rattle.std.specs.Prelude.{refl}
use Rattle.std.specs.Int.{int_wrap}
use Rattle.std.specs.Fmt.{digits}
use Rattle.code_examples.specs.Partitions.{equal_sizes_runs, sizes_by_field_runs, set_operations_runs, bad_colour_runs}

pub equal_sizes_runs_hold : equal_sizes_runs
unfolding int_wrap digits
equal_sizes_runs_hold = refl

pub sizes_by_field_runs_hold : sizes_by_field_runs
unfolding int_wrap digits
sizes_by_field_runs_hold = refl

pub set_operations_runs_hold : set_operations_runs
unfolding int_wrap digits
set_operations_runs_hold = refl

pub bad_colour_runs_hold : bad_colour_runs
unfolding int_wrap digits
bad_colour_runs_hold = refl
