-- The premises of the law on whole programs hold of a program that keeps pointers.
use Rattle.std.proofs.Common.{[], ◌∷◌, pos, refl, arith}
use Rattle.std.proofs.lemmas.Int.{ints}
use Rattle.regent_tree.specs.Limits.{parts_of_program, WithinLimits}
use Rattle.code_laws.proofs.LocalExample.{all_keep}
use Rattle.worked_examples.specs.Pointers.{circuit_program}
use Rattle.sound_code.specs.WholeExample.{CircuitIsSound, follows_program, WholeExampleHolds}
use Rattle.sound_code.proofs.Rules.{whole_programs_are_sound}
use Rattle.code_laws.proofs.WrittenForms.{program_written}
use Rattle.code_laws.specs.AcceptedPrograms.{IsProgramRun}

within : WithinLimits follows_program
within = record { each = all_keep (parts_of_program follows_program) refl; nodes = omega (arith) }

run : IsProgramRun follows_program (pos 2 ∷ [])
run = record { within = within; accepted = refl; written = program_written follows_program refl; numbers = (omega (arith, ints), tt) }

pub whole_example_holds : WholeExampleHolds
whole_example_holds = record { run = run; sound = whole_programs_are_sound follows_program (pos 2 ∷ []) run }

circuit_within : WithinLimits circuit_program
circuit_within = record { each = all_keep (parts_of_program circuit_program) refl; nodes = omega (arith) }

circuit_run : IsProgramRun circuit_program []
circuit_run = record { within = circuit_within; accepted = refl; written = program_written circuit_program refl; numbers = tt }

pub circuit_is_sound : CircuitIsSound
circuit_is_sound = record { run = circuit_run; sound = whole_programs_are_sound circuit_program [] circuit_run }
