-- Programs of which the run in order of the compiled code is what the program means.
use Rattle.std.specs.Prelude.{[]}
use Rattle.code_laws.specs.Programs.{RunsAsMeant}
use Rattle.worked_examples.specs.Limits.{arguments_first_program, calls_too_deep_program, greatest_space_program, space_too_large_program, turns_enough_program, turns_spent_program}

abbrev pub turns_enough_runs : Type 0
turns_enough_runs = RunsAsMeant turns_enough_program [] 5

abbrev pub turns_spent_runs : Type 0
turns_spent_runs = RunsAsMeant turns_spent_program [] 4

abbrev pub arguments_first_runs : Type 0
arguments_first_runs = RunsAsMeant arguments_first_program [] 1

abbrev pub calls_too_deep_runs : Type 0
calls_too_deep_runs = RunsAsMeant calls_too_deep_program [] 1000000

abbrev pub greatest_space_runs : Type 0
greatest_space_runs = RunsAsMeant greatest_space_program [] 1000000

abbrev pub space_too_large_runs : Type 0
space_too_large_runs = RunsAsMeant space_too_large_program [] 1000000
