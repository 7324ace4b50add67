use Rattle.std.specs.Prelude.{refl}
use Rattle.check_examples.specs.ConstraintExamples.{overlapping_children_breaks, within_the_other_breaks}

pub overlapping_children_holds : overlapping_children_breaks
overlapping_children_holds = refl

pub within_the_other_holds : within_the_other_breaks
within_the_other_holds = refl
