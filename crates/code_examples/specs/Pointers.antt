-- Programs of which the run in order of the compiled code is what the program means.
use Rattle.std.specs.Prelude.{[]}
use Rattle.code_laws.specs.Programs.{RunsAsMeant}
use Rattle.worked_examples.specs.Pointers.{circuit_program, null_pointer_program, outside_region_program, positions_program, pointer_arithmetic_program, null_on_the_right_program, null_on_the_left_program}

abbrev pub null_pointer_runs : Type 0
null_pointer_runs = RunsAsMeant null_pointer_program [] 1000000

abbrev pub outside_region_runs : Type 0
outside_region_runs = RunsAsMeant outside_region_program [] 1000000

abbrev pub positions_runs : Type 0
positions_runs = RunsAsMeant positions_program [] 1000000

abbrev pub circuit_runs : Type 0
circuit_runs = RunsAsMeant circuit_program [] 1000000

abbrev pub pointer_arithmetic_runs : Type 0
pointer_arithmetic_runs = RunsAsMeant pointer_arithmetic_program [] 1000000

abbrev pub null_on_the_right_runs : Type 0
null_on_the_right_runs = RunsAsMeant null_on_the_right_program [] 1000000

abbrev pub null_on_the_left_runs : Type 0
null_on_the_left_runs = RunsAsMeant null_on_the_left_program [] 1000000
