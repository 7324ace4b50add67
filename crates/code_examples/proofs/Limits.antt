-- By computing.
use Rattle.std.specs.Prelude.{refl}
use Rattle.std.specs.Int.{int_wrap}
use Rattle.std.specs.Fmt.{digits}
use Rattle.code_examples.specs.Limits.{turns_enough_runs, turns_spent_runs, arguments_first_runs, calls_too_deep_runs, greatest_space_runs, space_too_large_runs}

pub turns_enough_runs_hold : turns_enough_runs
unfolding int_wrap digits
turns_enough_runs_hold = refl

pub turns_spent_runs_hold : turns_spent_runs
unfolding int_wrap digits
turns_spent_runs_hold = refl

pub arguments_first_runs_hold : arguments_first_runs
unfolding int_wrap digits
arguments_first_runs_hold = refl

pub calls_too_deep_runs_hold : calls_too_deep_runs
unfolding int_wrap digits
calls_too_deep_runs_hold = refl

pub greatest_space_runs_hold : greatest_space_runs
unfolding int_wrap digits
greatest_space_runs_hold = refl

pub space_too_large_runs_hold : space_too_large_runs
unfolding int_wrap digits
space_too_large_runs_hold = refl
