-- Programs of which the run in order of the compiled code is what the program means.
use Rattle.std.specs.Prelude.{[]}
use Rattle.code_laws.specs.Programs.{RunsAsMeant}
use Rattle.worked_examples.specs.Statements.{choices_program, early_return_program, early_stop_program, false_assert_program, filled_program, hidden_names_program}

abbrev pub hidden_names_runs : Type 0
hidden_names_runs = RunsAsMeant hidden_names_program [] 1000000

abbrev pub choices_runs : Type 0
choices_runs = RunsAsMeant choices_program [] 1000000

abbrev pub early_stop_runs : Type 0
early_stop_runs = RunsAsMeant early_stop_program [] 1000000

abbrev pub early_return_runs : Type 0
early_return_runs = RunsAsMeant early_return_program [] 1000000

abbrev pub filled_runs : Type 0
filled_runs = RunsAsMeant filled_program [] 1000000

abbrev pub false_assert_runs : Type 0
false_assert_runs = RunsAsMeant false_assert_program [] 1000000
