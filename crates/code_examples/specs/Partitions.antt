-- Programs of which the run in order of the compiled code is what the program means.
use Rattle.std.specs.Prelude.{[]}
use Rattle.code_laws.specs.Programs.{RunsAsMeant}
use Rattle.worked_examples.specs.Partitions.{bad_colour_program, equal_sizes_program, set_operations_program, sizes_by_field_program}

abbrev pub equal_sizes_runs : Type 0
equal_sizes_runs = RunsAsMeant equal_sizes_program [] 1000000

abbrev pub sizes_by_field_runs : Type 0
sizes_by_field_runs = RunsAsMeant sizes_by_field_program [] 1000000

abbrev pub set_operations_runs : Type 0
set_operations_runs = RunsAsMeant set_operations_program [] 1000000

abbrev pub bad_colour_runs : Type 0
bad_colour_runs = RunsAsMeant bad_colour_program [] 1000000
