-- Examples that wrap numbers or print them, by computing.
use Rattle.std.specs.Fmt.{digits}
use Rattle.std.specs.Int.{int_wrap}
use Rattle.std.specs.Prelude.{refl}
use Rattle.order_examples.specs.Calls.{values_come_back}
use Rattle.order_examples.specs.Roots.{reductions_are_folded, read_sees_reduction}

pub values_hold : values_come_back
unfolding digits
values_hold = (refl, refl)

pub reductions_hold : reductions_are_folded
unfolding int_wrap digits
reductions_hold = refl

pub read_holds : read_sees_reduction
unfolding int_wrap digits
read_holds = refl
