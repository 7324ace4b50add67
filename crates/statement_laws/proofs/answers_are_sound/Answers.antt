use Rattle.statement_laws.proofs.Answers.{answers_are_sound}
use Rattle.statement_laws.proofs.answers_are_sound.Goals as goal

pub returns : goal.returns
returns c = answers_are_sound
