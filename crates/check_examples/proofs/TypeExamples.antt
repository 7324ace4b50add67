use Rattle.std.specs.Prelude.{refl}
use Rattle.check_examples.specs.TypeExamples.{region_for_number_breaks, elements_as_targets_breaks, wrong_types_breaks, integer_for_index_breaks, wrong_count_breaks, region_as_value_breaks, fixed_targets_breaks, wrong_formats_breaks, field_of_bad_type_breaks, unknown_child_breaks, differences_breaks, misbegun_regions_breaks, no_result_breaks}

pub wrong_types_holds : wrong_types_breaks
wrong_types_holds = refl

pub integer_for_index_holds : integer_for_index_breaks
integer_for_index_holds = refl

pub wrong_count_holds : wrong_count_breaks
wrong_count_holds = refl

pub region_as_value_holds : region_as_value_breaks
region_as_value_holds = refl

pub fixed_targets_holds : fixed_targets_breaks
fixed_targets_holds = refl

pub wrong_formats_holds : wrong_formats_breaks
wrong_formats_holds = refl

pub field_of_bad_type_holds : field_of_bad_type_breaks
field_of_bad_type_holds = refl

pub unknown_child_holds : unknown_child_breaks
unknown_child_holds = refl

pub differences_holds : differences_breaks
differences_holds = refl

pub no_result_holds : no_result_breaks
no_result_holds = refl

pub misbegun_regions_holds : misbegun_regions_breaks
misbegun_regions_holds = refl

pub elements_as_targets_holds : elements_as_targets_breaks
elements_as_targets_holds = refl

pub region_for_number_holds : region_for_number_breaks
region_for_number_holds = refl
