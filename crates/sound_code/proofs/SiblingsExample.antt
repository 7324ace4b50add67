-- The premises of the law on whole programs hold of a program in whose calls constraints speak of two parts of one partition.
use Rattle.std.proofs.Common.{[], ◌∷◌, pos, refl, arith}
use Rattle.std.proofs.lemmas.Int.{ints}
use Rattle.regent_tree.specs.Limits.{parts_of_program, WithinLimits}
use Rattle.code_laws.proofs.LocalExample.{all_keep}
use Rattle.sound_code.specs.SiblingsExample.{siblings_program, SiblingsExampleHolds}
use Rattle.sound_code.proofs.Rules.{whole_programs_are_sound}
use Rattle.code_laws.proofs.WrittenForms.{program_written}
use Rattle.code_laws.specs.AcceptedPrograms.{IsProgramRun}

within : WithinLimits siblings_program
within = record { each = all_keep (parts_of_program siblings_program) refl; nodes = omega (arith) }

run : IsProgramRun siblings_program (pos 2 ∷ [])
run = record { within = within; accepted = refl; written = program_written siblings_program refl; numbers = (omega (arith, ints), tt) }

pub siblings_example_holds : SiblingsExampleHolds
siblings_example_holds = record { run = run; sound = whole_programs_are_sound siblings_program (pos 2 ∷ []) run }
