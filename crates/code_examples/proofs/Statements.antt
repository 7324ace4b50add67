-- By computing.
use Rattle.std.specs.Prelude.{refl}
use Rattle.std.specs.Int.{int_wrap}
use Rattle.std.specs.Fmt.{digits}
use Rattle.code_examples.specs.Statements.{hidden_names_runs, choices_runs, early_stop_runs, early_return_runs, filled_runs, false_assert_runs}

pub hidden_names_runs_hold : hidden_names_runs
unfolding int_wrap digits
hidden_names_runs_hold = refl

pub choices_runs_hold : choices_runs
unfolding int_wrap digits
choices_runs_hold = refl

pub early_stop_runs_hold : early_stop_runs
unfolding int_wrap digits
early_stop_runs_hold = refl

pub early_return_runs_hold : early_return_runs
unfolding int_wrap digits
early_return_runs_hold = refl

pub filled_runs_hold : filled_runs
unfolding int_wrap digits
filled_runs_hold = refl

pub false_assert_runs_hold : false_assert_runs
unfolding int_wrap digits
false_assert_runs_hold = refl
