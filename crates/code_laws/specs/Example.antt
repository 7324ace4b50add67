-- A program over scalars that is accepted, with a number for its input.
use Rattle.std.specs.Prelude.{[], ◌∷◌}
use Rattle.worked_examples.specs.Numbers.{input_printed_program}
use Rattle.worked_examples.specs.Words.{below_zero}
use Rattle.code_laws.specs.ScalarPrograms.{IsScalarProgramRun}

-- each premise of the law holds of it
abbrev pub ExampleHolds : Type 0
ExampleHolds = IsScalarProgramRun input_printed_program (below_zero 3 ∷ [])
