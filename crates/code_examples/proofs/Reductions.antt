-- By computing.
use Rattle.std.specs.Prelude.{refl}
use Rattle.std.specs.Int.{int_wrap}
use Rattle.std.specs.Fmt.{digits}
use Rattle.code_examples.specs.Reductions.{reducing_calls_runs, wrapping_reduction_runs, least_lowered_runs, least_kept_runs, narrow_least_runs}

pub reducing_calls_runs_hold : reducing_calls_runs
unfolding int_wrap digits
reducing_calls_runs_hold = refl

pub wrapping_reduction_runs_hold : wrapping_reduction_runs
unfolding int_wrap digits
wrapping_reduction_runs_hold = refl

pub least_lowered_runs_hold : least_lowered_runs
unfolding int_wrap digits
least_lowered_runs_hold = refl

pub least_kept_runs_hold : least_kept_runs
unfolding int_wrap digits
least_kept_runs_hold = refl

pub narrow_least_runs_hold : narrow_least_runs
unfolding int_wrap digits
narrow_least_runs_hold = refl
