use Rattle.regent_reader.proofs.TextLaws.{one_outcome}
use Rattle.regent_reader.proofs.theorems.one_outcome.Goals as goal

pub returns : goal.returns
returns c = one_outcome
