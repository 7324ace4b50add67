-- The premises of the law hold of a program with the difference of two partitions, and a part, as variables of written types.
use Rattle.std.proofs.Common.{[], refl, arith}
use Rattle.std.specs.Int.{int_wrap}
use Rattle.regent_tree.specs.Limits.{WithinLimits, parts_of_program}
use Rattle.code_laws.specs.AcceptedPrograms.{IsProgramRun}
use Rattle.code_laws.specs.MinusExample.{MinusExampleHolds, minus_program}
use Rattle.code_laws.proofs.LocalExample.{all_keep}
use Rattle.code_laws.proofs.WrittenForms.{program_written}

within : WithinLimits minus_program
within = record { each = all_keep (parts_of_program minus_program) refl; nodes = omega (arith) }

run : IsProgramRun minus_program []
run = record { within = within; accepted = refl; written = program_written minus_program refl; numbers = tt }

pub minus_example_holds : MinusExampleHolds
unfolding int_wrap
minus_example_holds = record { run = run; end_is = refl }
