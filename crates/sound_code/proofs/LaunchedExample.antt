-- The premises of the law on whole programs hold of a program with loops that are index launches.
use Rattle.std.proofs.Common.{[], ◌∷◌, pos, refl, arith}
use Rattle.std.proofs.lemmas.Int.{ints}
use Rattle.regent_tree.specs.Limits.{parts_of_program, WithinLimits}
use Rattle.code_laws.proofs.LocalExample.{all_keep}
use Rattle.sound_code.specs.LaunchedExample.{launched_program, LaunchedExampleHolds}
use Rattle.sound_code.proofs.Rules.{whole_programs_are_sound}
use Rattle.code_laws.proofs.WrittenForms.{program_written}
use Rattle.code_laws.specs.AcceptedPrograms.{IsProgramRun}

within : WithinLimits launched_program
within = record { each = all_keep (parts_of_program launched_program) refl; nodes = omega (arith) }

run : IsProgramRun launched_program (pos 2 ∷ [])
run = record { within = within; accepted = refl; written = program_written launched_program refl; numbers = (omega (arith, ints), tt) }

pub launched_example_holds : LaunchedExampleHolds
launched_example_holds = record { first = refl; second = refl; run = run; sound = whole_programs_are_sound launched_program (pos 2 ∷ []) run }
