-- Programs that breach no rule. What each of them means stands in worked_examples.
use Rattle.std.specs.Prelude.{◌≡◌, [], ◌∷◌, map}
use Rattle.worked_examples.specs.Numbers.{assignment_program, narrow_product_program, empty_task_program, signed_division_program, input_printed_program}
use Rattle.worked_examples.specs.Reductions.{reducing_calls_program, wrapping_reduction_program, least_lowered_program, least_kept_program, narrow_least_program}
use Rattle.worked_examples.specs.Partitions.{equal_sizes_program, sizes_by_field_program, set_operations_program, bad_colour_program}
use Rattle.worked_examples.specs.Images.{preimage_of_colour_0_program, preimage_of_colour_1_program, neighbours_program}
use Rattle.worked_examples.specs.Statements.{hidden_names_program, choices_program, early_stop_program, early_return_program, filled_program, false_assert_program}
use Rattle.worked_examples.specs.Calls.{writes_by_parts_program, overlapping_arguments_program, call_between_program, fault_in_loop_program, first_fault_program}
use Rattle.worked_examples.specs.Pointers.{null_pointer_program, outside_region_program, positions_program, circuit_program}
use Rattle.worked_examples.specs.Limits.{turns_enough_program, turns_spent_program, arguments_first_program, calls_too_deep_program, greatest_space_program, space_too_large_program}
use Rattle.check_rules.specs.Breaches.{breaches}

abbrev pub numbers_accepted : Type 0
numbers_accepted =
    map breaches (assignment_program
    ∷ narrow_product_program
    ∷ empty_task_program
    ∷ signed_division_program
    ∷ input_printed_program
    ∷ []) ≡ [] ∷ [] ∷ [] ∷ [] ∷ [] ∷ []

abbrev pub reductions_accepted : Type 0
reductions_accepted =
    map breaches (reducing_calls_program
    ∷ wrapping_reduction_program
    ∷ least_lowered_program
    ∷ least_kept_program
    ∷ narrow_least_program
    ∷ []) ≡ [] ∷ [] ∷ [] ∷ [] ∷ [] ∷ []

abbrev pub partitions_accepted : Type 0
partitions_accepted =
    map breaches (equal_sizes_program
    ∷ sizes_by_field_program
    ∷ set_operations_program
    ∷ bad_colour_program
    ∷ []) ≡ [] ∷ [] ∷ [] ∷ [] ∷ []

abbrev pub images_accepted : Type 0
images_accepted =
    map breaches (preimage_of_colour_0_program
    ∷ preimage_of_colour_1_program
    ∷ neighbours_program
    ∷ []) ≡ [] ∷ [] ∷ [] ∷ []

abbrev pub statements_accepted : Type 0
statements_accepted =
    map breaches (hidden_names_program
    ∷ choices_program
    ∷ early_stop_program
    ∷ early_return_program
    ∷ filled_program
    ∷ false_assert_program
    ∷ []) ≡ [] ∷ [] ∷ [] ∷ [] ∷ [] ∷ [] ∷ []

abbrev pub calls_accepted : Type 0
calls_accepted =
    map breaches (writes_by_parts_program
    ∷ overlapping_arguments_program
    ∷ call_between_program
    ∷ fault_in_loop_program
    ∷ first_fault_program
    ∷ []) ≡ [] ∷ [] ∷ [] ∷ [] ∷ [] ∷ []

abbrev pub pointers_accepted : Type 0
pointers_accepted =
    map breaches (null_pointer_program
    ∷ outside_region_program
    ∷ positions_program
    ∷ circuit_program
    ∷ []) ≡ [] ∷ [] ∷ [] ∷ [] ∷ []

abbrev pub limits_accepted : Type 0
limits_accepted =
    map breaches (turns_enough_program
    ∷ turns_spent_program
    ∷ arguments_first_program
    ∷ calls_too_deep_program
    ∷ greatest_space_program
    ∷ space_too_large_program
    ∷ []) ≡ [] ∷ [] ∷ [] ∷ [] ∷ [] ∷ [] ∷ []
