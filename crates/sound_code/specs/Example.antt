-- Programs whose code is sound, so that the laws are laws of something.
use Rattle.std.specs.Prelude.{◌≡◌, [], ◌∷◌, pos}
use Rattle.regent_tree.specs.StaticTypes.{task_named}
use Rattle.task_code.specs.declared.code.TaskCode.{TaskCode}
use Rattle.machine_terms.specs.declared.frame.Before.{Before}
use Rattle.machine_terms.specs.declared.outcome.Made.TheVariants as made
use Rattle.machine_terms.specs.declared.outcome.Yield.TheVariants as yield
use Rattle.machine_terms.specs.declared.value.Value.TheVariants.{Number}
use Rattle.machine_terms.specs.Jobs.{first_frame}
use Rattle.machine_terms.specs.Segments.{segment}
use Rattle.code_rules.specs.Programs.{code_of, task_code}
use Rattle.code_laws.specs.CallExample.{calls_program}
use Rattle.code_laws.specs.Programs.{job_of, region_forms}
use Rattle.code_laws.specs.RegionExample.{regions_program}
use Rattle.fit_rules.specs.Ends.{called, opening_machine}
use Rattle.fit_rules.specs.Fits.{BeforeFits, Fits}
use Rattle.sound_code.specs.Programs.{RunsSoundly, TasksRunSoundly, entry_code, entry_place, first_world}

-- the run of the program with calls begins, with 5 for its number and seven turns
abbrev pub first_before : Before
first_before = record {
  code = code_of calls_program;
  frame = first_frame (job_of calls_program (pos 5 ∷ []) 7) (entry_code calls_program);
  parts = [];
}

-- the task that it calls
abbrev pub twice : TaskCode
twice = task_code calls_program (task_named calls_program (116 ∷ 119 ∷ 105 ∷ 99 ∷ 101 ∷ []))

-- The code of its tasks is sound; what its first segment runs from fits, and the segment ends where a root of
-- two points is wanted. A call of the other task, with 7, opens a frame that fits. And the code of a program
-- whose task makes a root and goes through an index space is sound.
pub record CodeExampleHolds : Type 0 where
  pub sound : TasksRunSoundly calls_program
  pub begins : BeforeFits sound.program (first_world (pos 5 ∷ [])) (entry_code calls_program) (entry_place calls_program) first_before
  pub ends : (segment first_before).ends ≡ yield.Make (made.Root 2 0)
  pub opens : Fits sound.program (called (first_world (pos 5 ∷ [])) (Number (pos 7) ∷ [])) twice 0
      (opening_machine 6 2 0 twice (Number (pos 7) ∷ []))
  pub roots : RunsSoundly region_forms regions_program
