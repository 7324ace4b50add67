use Rattle.text_laws.proofs.Texts.{calls_of_texts_lie_within}
use Rattle.text_laws.proofs.calls_of_texts_lie_within.Goals as goal

pub returns : goal.returns
returns c = calls_of_texts_lie_within
