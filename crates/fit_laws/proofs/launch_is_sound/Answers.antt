use Rattle.fit_laws.proofs.Launching.{launch_is_sound, launch_calls}
use Rattle.fit_laws.proofs.launch_is_sound.Goals as goal

pub returns-clause-sound : goal.returns-clause-sound
returns-clause-sound c = launch_is_sound

pub returns-clause-calls : goal.returns-clause-calls
returns-clause-calls c = launch_calls
