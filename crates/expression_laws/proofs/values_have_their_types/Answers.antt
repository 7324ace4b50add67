use Rattle.expression_laws.proofs.Laws.{values_have_their_types}
use Rattle.expression_laws.proofs.values_have_their_types.Goals as goal

pub returns : goal.returns
returns c = values_have_their_types
