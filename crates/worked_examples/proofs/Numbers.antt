use Rattle.std.specs.Prelude.{refl}
use Rattle.std.specs.Int.{int_wrap}
use Rattle.std.specs.Fmt.{digits}
use Rattle.worked_examples.specs.Numbers.{assignment_means, narrow_product_means, empty_task_means, signed_division_means, input_printed_means}

pub assignment_holds : assignment_means
unfolding int_wrap digits
assignment_holds = refl

pub narrow_product_holds : narrow_product_means
unfolding int_wrap digits
narrow_product_holds = refl

pub empty_task_holds : empty_task_means
unfolding int_wrap digits
empty_task_holds = refl

pub signed_division_holds : signed_division_means
unfolding int_wrap digits
signed_division_holds = refl

pub input_printed_holds : input_printed_means
unfolding int_wrap digits
input_printed_holds = refl
