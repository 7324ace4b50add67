use Rattle.state_laws.proofs.Texts.{texts_fit}
use Rattle.state_laws.proofs.texts_fit.Goals as goal

pub returns : goal.returns
returns c = texts_fit
