use Rattle.fit_laws.proofs.Example.{example_is_sound, example_ends}
use Rattle.fit_laws.proofs.example_is_sound.Goals as goal

pub returns-clause-sound : goal.returns-clause-sound
returns-clause-sound c = example_is_sound

pub returns-clause-ends : goal.returns-clause-ends
returns-clause-ends c = example_ends
