use Rattle.std.specs.Prelude.{refl}
use Rattle.std.specs.Int.{int_wrap}
use Rattle.std.specs.Fmt.{digits}
use Rattle.worked_examples.specs.Images.{preimage_of_colour_0_means, preimage_of_colour_1_means, neighbours_means}

pub preimage_of_colour_0_holds : preimage_of_colour_0_means
unfolding int_wrap digits
preimage_of_colour_0_holds = refl

pub preimage_of_colour_1_holds : preimage_of_colour_1_means
unfolding int_wrap digits
preimage_of_colour_1_holds = refl

pub neighbours_holds : neighbours_means
unfolding int_wrap digits
neighbours_holds = refl
