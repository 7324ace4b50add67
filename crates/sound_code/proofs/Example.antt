-- The code of the examples is sound.
use Rattle.std.proofs.Common.{pos, [], ◌∷◌, refl, sym, arith}
use Rattle.std.proofs.lemmas.Int.{ints}
use Rattle.lane_kernels.specs.declared.numbers.Width.TheVariants.{W64}
use Rattle.machine_terms.specs.declared.value.Value.TheVariants.{Number}
use Rattle.code_laws.specs.CallExample.{calls_program}
use Rattle.code_laws.specs.RegionExample.{regions_program}
use Rattle.code_laws.specs.Simple.{simple_integer}
use Rattle.code_laws.proofs.CallExample.{call_example_holds}
use Rattle.code_laws.proofs.RegionExample.{region_example_holds}
use Rattle.fit_rules.specs.Shapes.{integer, is_number, are_none, are_more}
use Rattle.sound_code.specs.Example.{CodeExampleHolds}
use Rattle.sound_code.specs.Programs.{first_world, TasksRunSoundly}
use Rattle.sound_code.proofs.Openings.{calls_are_sound, region_tasks_are_sound}

tasks_sound : TasksRunSoundly calls_program
tasks_sound = calls_are_sound calls_program call_example_holds.tasks

pub code_example_holds : CodeExampleHolds
code_example_holds = record {
  sound = tasks_sound;
  begins = record { code = sym tasks_sound.code; machine = tasks_sound.begins (pos 5 ∷ []) 7 call_example_holds.run (omega arith) };
  ends = refl;
  opens = tasks_sound.opens 0 _ refl (simple_integer W64, tt) (first_world (pos 5 ∷ [])) (Number (pos 7) ∷ []) 6 2 (omega arith)
      (are_more (integer W64) _ [] [] (is_number (integer W64) (pos 7) (omega (arith, ints))) are_none);
  roots = region_tasks_are_sound regions_program (pos 2 ∷ []) region_example_holds.ends;
}
