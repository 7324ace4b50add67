-- The premises of the law on whole programs hold of a program of which variables begin as parts.
use Rattle.std.proofs.Common.{[], ◌∷◌, pos, refl, arith}
use Rattle.std.proofs.lemmas.Int.{ints}
use Rattle.regent_tree.specs.Limits.{parts_of_program, WithinLimits}
use Rattle.code_laws.proofs.LocalExample.{all_keep}
use Rattle.sound_code.specs.PiecesExample.{pieces_program, PiecesExampleHolds}
use Rattle.sound_code.proofs.Rules.{whole_programs_are_sound}
use Rattle.code_laws.proofs.WrittenForms.{program_written}
use Rattle.code_laws.specs.AcceptedPrograms.{IsProgramRun}

within : WithinLimits pieces_program
within = record { each = all_keep (parts_of_program pieces_program) refl; nodes = omega (arith) }

run : IsProgramRun pieces_program (pos 2 ∷ [])
run = record { within = within; accepted = refl; written = program_written pieces_program refl; numbers = (omega (arith, ints), tt) }

pub pieces_example_holds : PiecesExampleHolds
pieces_example_holds = record { run = run; sound = whole_programs_are_sound pieces_program (pos 2 ∷ []) run }
