use Rattle.std.specs.Prelude.{refl}
use Rattle.std.specs.Int.{int_wrap}
use Rattle.std.specs.Fmt.{digits}
use Rattle.worked_examples.specs.Statements.{hidden_names_means, choices_means, early_stop_means, early_return_means, filled_means, false_assert_means}

pub hidden_names_holds : hidden_names_means
unfolding int_wrap digits
hidden_names_holds = refl

pub choices_holds : choices_means
unfolding int_wrap digits
choices_holds = refl

pub early_stop_holds : early_stop_means
unfolding int_wrap digits
early_stop_holds = refl

pub early_return_holds : early_return_means
unfolding int_wrap digits
early_return_holds = refl

pub filled_holds : filled_means
unfolding int_wrap digits
filled_holds = refl

pub false_assert_holds : false_assert_means
unfolding int_wrap digits
false_assert_holds = refl
