use Rattle.std.specs.Prelude.{refl}
use Rattle.std.specs.Int.{int_wrap}
use Rattle.std.specs.Fmt.{digits}
use Rattle.worked_examples.specs.Pointers.{null_pointer_means, outside_region_means, pointer_arithmetic_means, null_on_the_right_means, null_on_the_left_means, positions_means, circuit_means}

pub null_pointer_holds : null_pointer_means
unfolding int_wrap digits
null_pointer_holds = refl

pub outside_region_holds : outside_region_means
unfolding int_wrap digits
outside_region_holds = refl

pub positions_holds : positions_means
unfolding int_wrap digits
positions_holds = refl

pub circuit_holds : circuit_means
unfolding int_wrap digits
circuit_holds = refl

pub pointer_arithmetic_holds : pointer_arithmetic_means
unfolding int_wrap digits
pointer_arithmetic_holds = refl

pub null_on_the_right_holds : null_on_the_right_means
unfolding int_wrap digits
null_on_the_right_holds = refl

pub null_on_the_left_holds : null_on_the_left_means
unfolding int_wrap digits
null_on_the_left_holds = refl
