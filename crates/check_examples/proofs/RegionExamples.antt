use Rattle.std.specs.Prelude.{refl}
use Rattle.check_examples.specs.RegionExamples.{wild_pointer_breaks, wrong_pointers_breaks, other_space_breaks, aliased_for_disjoint_breaks, after_misbegun_breaks, image_of_another_breaks, set_of_two_parents_breaks, other_arguments_breaks}

pub wild_pointer_holds : wild_pointer_breaks
wild_pointer_holds = refl

pub wrong_pointers_holds : wrong_pointers_breaks
wrong_pointers_holds = refl

pub other_space_holds : other_space_breaks
other_space_holds = refl

pub aliased_for_disjoint_holds : aliased_for_disjoint_breaks
aliased_for_disjoint_holds = refl

pub image_of_another_holds : image_of_another_breaks
image_of_another_holds = refl

pub set_of_two_parents_holds : set_of_two_parents_breaks
set_of_two_parents_holds = refl

pub other_arguments_holds : other_arguments_breaks
other_arguments_holds = refl

pub after_misbegun_holds : after_misbegun_breaks
after_misbegun_holds = refl
