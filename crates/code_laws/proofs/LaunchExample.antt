-- The premises of the law hold of a program with a launch.
use Rattle.std.proofs.Common.{[], ◌∷◌, refl, pos, arith}
use Rattle.std.proofs.lemmas.Int.{ints}
use Rattle.std.specs.Fmt.{digits}
use Rattle.std.specs.Int.{int_wrap}
use Rattle.regent_tree.specs.Limits.{WithinLimits, parts_of_program}
use Rattle.code_laws.specs.AcceptedPrograms.{IsProgramRun}
use Rattle.code_laws.specs.LaunchExample.{LaunchExampleHolds, launching_program}
use Rattle.code_laws.proofs.LocalExample.{all_keep}
use Rattle.code_laws.proofs.LocalRuns.{accepted_programs_run_as_meant}
use Rattle.code_laws.proofs.WrittenForms.{program_written}

within : WithinLimits launching_program
within = record { each = all_keep (parts_of_program launching_program) refl; nodes = omega (arith) }

fault_run : IsProgramRun launching_program (pos 5 ∷ [])
fault_run = record { within = within; accepted = refl; written = program_written launching_program refl; numbers = (omega (arith, ints), tt) }

pub launch_example_holds : LaunchExampleHolds
unfolding int_wrap digits
launch_example_holds = record {
  launched = refl;
  run = record { within = within; accepted = refl; written = program_written launching_program refl; numbers = (omega (arith, ints), tt) };
  end_is = refl;
  fault_run = fault_run;
  fault_is = accepted_programs_run_as_meant launching_program (pos 5 ∷ []) 100 (omega (arith)) fault_run;
  turns_are = accepted_programs_run_as_meant launching_program (pos 5 ∷ []) 3 (omega (arith)) fault_run;
}
