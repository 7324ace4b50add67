-- By computing.
use Rattle.std.specs.Prelude.{refl}
use Rattle.std.specs.Int.{int_wrap}
use Rattle.std.specs.Fmt.{digits}
use Rattle.code_examples.specs.Children.{children_mean, children_run}

pub children_mean_hold : children_mean
unfolding int_wrap digits
children_mean_hold = refl

pub children_run_hold : children_run
unfolding int_wrap digits
children_run_hold = refl
