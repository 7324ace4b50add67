use Rattle.std.specs.Prelude.{refl}
use Rattle.check_examples.specs.NameExamples.{parameters_of_one_name_breaks, after_unknown_breaks, beside_the_unbound_breaks, causes_alone_breaks, clause_on_nothing_breaks, missing_things_breaks, named_by_each_other_breaks, parameter_of_no_type_breaks, past_its_block_breaks, pointer_into_unknown_breaks, pointer_to_number_breaks, two_of_a_name_breaks, unbound_name_breaks}

pub unbound_name_holds : unbound_name_breaks
unbound_name_holds = refl

pub missing_things_holds : missing_things_breaks
missing_things_holds = refl

pub past_its_block_holds : past_its_block_breaks
past_its_block_holds = refl

pub two_of_a_name_holds : two_of_a_name_breaks
two_of_a_name_holds = refl

pub causes_alone_holds : causes_alone_breaks
causes_alone_holds = refl

pub pointer_to_number_holds : pointer_to_number_breaks
pointer_to_number_holds = refl

pub beside_the_unbound_holds : beside_the_unbound_breaks
beside_the_unbound_holds = refl

pub after_unknown_holds : after_unknown_breaks
after_unknown_holds = refl

pub clause_on_nothing_holds : clause_on_nothing_breaks
clause_on_nothing_holds = refl

pub named_by_each_other_holds : named_by_each_other_breaks
named_by_each_other_holds = refl

pub parameter_of_no_type_holds : parameter_of_no_type_breaks
parameter_of_no_type_holds = refl

pub pointer_into_unknown_holds : pointer_into_unknown_breaks
pointer_into_unknown_holds = refl

pub parameters_of_one_name_holds : parameters_of_one_name_breaks
parameters_of_one_name_holds = refl
