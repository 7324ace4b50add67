-- The premises of the law on whole programs hold of a program that makes partitions in each way.
use Rattle.std.proofs.Common.{[], ◌∷◌, pos, refl, arith}
use Rattle.std.proofs.lemmas.Int.{ints}
use Rattle.regent_tree.specs.Limits.{parts_of_program, WithinLimits}
use Rattle.code_laws.proofs.LocalExample.{all_keep}
use Rattle.sound_code.specs.CutsExample.{cuts_program, CutsExampleHolds}
use Rattle.sound_code.proofs.Rules.{whole_programs_are_sound}
use Rattle.code_laws.proofs.WrittenForms.{program_written}
use Rattle.code_laws.specs.AcceptedPrograms.{IsProgramRun}

within : WithinLimits cuts_program
within = record { each = all_keep (parts_of_program cuts_program) refl; nodes = omega (arith) }

run : IsProgramRun cuts_program (pos 2 ∷ [])
run = record { within = within; accepted = refl; written = program_written cuts_program refl; numbers = (omega (arith, ints), tt) }

pub cuts_example_holds : CutsExampleHolds
cuts_example_holds = record { run = run; sound = whole_programs_are_sound cuts_program (pos 2 ∷ []) run }
