-- By computing.
use Rattle.std.specs.Prelude.{refl}
use Rattle.std.specs.Int.{int_wrap}
use Rattle.std.specs.Fmt.{digits}
use Rattle.code_examples.specs.Images.{preimage_of_colour_0_runs, preimage_of_colour_1_runs, neighbours_runs}

pub preimage_of_colour_0_runs_hold : preimage_of_colour_0_runs
unfolding int_wrap digits
preimage_of_colour_0_runs_hold = refl

pub preimage_of_colour_1_runs_hold : preimage_of_colour_1_runs
unfolding int_wrap digits
preimage_of_colour_1_runs_hold = refl

pub neighbours_runs_hold : neighbours_runs
unfolding int_wrap digits
neighbours_runs_hold = refl
