-- Programs of which the run in order of the compiled code is what the program means.
use Rattle.std.specs.Prelude.{[]}
use Rattle.code_laws.specs.Programs.{RunsAsMeant}
use Rattle.worked_examples.specs.Calls.{call_between_program, fault_in_loop_program, first_fault_program, overlapping_arguments_program, writes_by_parts_program}

abbrev pub writes_by_parts_runs : Type 0
writes_by_parts_runs = RunsAsMeant writes_by_parts_program [] 1000000

abbrev pub overlapping_arguments_runs : Type 0
overlapping_arguments_runs = RunsAsMeant overlapping_arguments_program [] 1000000

abbrev pub call_between_runs : Type 0
call_between_runs = RunsAsMeant call_between_program [] 1000000

abbrev pub fault_in_loop_runs : Type 0
fault_in_loop_runs = RunsAsMeant fault_in_loop_program [] 1000000

abbrev pub first_fault_runs : Type 0
first_fault_runs = RunsAsMeant first_fault_program [] 1000000
