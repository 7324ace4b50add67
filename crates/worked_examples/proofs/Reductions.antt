use Rattle.std.specs.Prelude.{refl}
use Rattle.std.specs.Int.{int_wrap}
use Rattle.std.specs.Fmt.{digits}
use Rattle.worked_examples.specs.Reductions.{reducing_calls_means, wrapping_reduction_means, least_lowered_means, least_kept_means, narrow_least_means}

pub reducing_calls_holds : reducing_calls_means
unfolding int_wrap digits
reducing_calls_holds = refl

pub wrapping_reduction_holds : wrapping_reduction_means
unfolding int_wrap digits
wrapping_reduction_holds = refl

pub least_lowered_holds : least_lowered_means
unfolding int_wrap digits
least_lowered_holds = refl

pub least_kept_holds : least_kept_means
unfolding int_wrap digits
least_kept_holds = refl

pub narrow_least_holds : narrow_least_means
unfolding int_wrap digits
narrow_least_holds = refl
