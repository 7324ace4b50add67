use Rattle.value_laws.proofs.Laws.{values_fit}
use Rattle.value_laws.proofs.values_fit.Goals as goal

pub returns : goal.returns
returns c = values_fit
