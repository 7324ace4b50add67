use Rattle.std.specs.Prelude.{refl}
use Rattle.std.specs.Int.{int_wrap}
use Rattle.std.specs.Fmt.{digits}
use Rattle.worked_examples.specs.SampleProgram.{sample_means}

pub sample_holds : sample_means
unfolding int_wrap digits
sample_holds = refl
