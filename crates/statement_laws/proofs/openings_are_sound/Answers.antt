use Rattle.statement_laws.proofs.Openings.{openings_are_sound}
use Rattle.statement_laws.proofs.openings_are_sound.Goals as goal

pub returns : goal.returns
returns c = openings_are_sound
