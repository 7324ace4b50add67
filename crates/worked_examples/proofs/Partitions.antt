use Rattle.std.specs.Prelude.{refl}
use Rattle.std.specs.Int.{int_wrap}
use Rattle.std.specs.Fmt.{digits}
use Rattle.worked_examples.specs.Partitions.{equal_sizes_means, sizes_by_field_means, set_operations_means, bad_colour_means}

pub equal_sizes_holds : equal_sizes_means
unfolding int_wrap digits
equal_sizes_holds = refl

pub sizes_by_field_holds : sizes_by_field_means
unfolding int_wrap digits
sizes_by_field_holds = refl

pub set_operations_holds : set_operations_means
unfolding int_wrap digits
set_operations_holds = refl

pub bad_colour_holds : bad_colour_means
unfolding int_wrap digits
bad_colour_holds = refl
