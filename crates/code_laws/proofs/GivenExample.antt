-- The premises of the law hold of a program with a task that gives an index.
use Rattle.std.proofs.Common.{[], ◌∷◌, refl, pos, arith}
use Rattle.std.proofs.lemmas.Int.{ints}
use Rattle.std.specs.Fmt.{digits}
use Rattle.std.specs.Int.{int_wrap}
use Rattle.regent_tree.specs.Limits.{WithinLimits, parts_of_program}
use Rattle.code_laws.specs.GivenExample.{GivenExampleHolds, giving_program}
use Rattle.code_laws.specs.AcceptedPrograms.{IsProgramRun}
use Rattle.code_laws.proofs.LocalExample.{all_keep}
use Rattle.code_laws.proofs.WrittenForms.{program_written}

within : WithinLimits giving_program
within = record { each = all_keep (parts_of_program giving_program) refl; nodes = omega (arith) }

run : IsProgramRun giving_program (pos 3 ∷ [])
run = record { within = within; accepted = refl; written = program_written giving_program refl; numbers = (omega (arith, ints), tt) }

pub given_example_holds : GivenExampleHolds
unfolding int_wrap digits
given_example_holds = record {
  run = run;
  end_is = refl;
  fault_run = record { within = within; accepted = refl; written = program_written giving_program refl; numbers = (omega (arith, ints), tt) };
  fault_is = refl;
}
