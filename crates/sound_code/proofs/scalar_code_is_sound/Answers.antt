use Rattle.sound_code.proofs.Openings.{scalar_tasks_are_sound, scalar_programs_are_sound}
use Rattle.sound_code.proofs.scalar_code_is_sound.Goals as goal

pub returns-clause-tasks : goal.returns-clause-tasks
returns-clause-tasks c = scalar_tasks_are_sound

pub returns-clause-programs : goal.returns-clause-programs
returns-clause-programs c = scalar_programs_are_sound
