-- Programs of which the run in order of the compiled code is what the program means.
use Rattle.std.specs.Prelude.{[]}
use Rattle.code_laws.specs.Programs.{RunsAsMeant}
use Rattle.worked_examples.specs.Reductions.{least_kept_program, least_lowered_program, narrow_least_program, reducing_calls_program, wrapping_reduction_program}

abbrev pub reducing_calls_runs : Type 0
reducing_calls_runs = RunsAsMeant reducing_calls_program [] 1000000

abbrev pub wrapping_reduction_runs : Type 0
wrapping_reduction_runs = RunsAsMeant wrapping_reduction_program [] 1000000

abbrev pub least_lowered_runs : Type 0
least_lowered_runs = RunsAsMeant least_lowered_program [] 1000000

abbrev pub least_kept_runs : Type 0
least_kept_runs = RunsAsMeant least_kept_program [] 1000000

abbrev pub narrow_least_runs : Type 0
narrow_least_runs = RunsAsMeant narrow_least_program [] 1000000
