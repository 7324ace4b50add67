use Rattle.check_laws.proofs.Trees.{all_is_known}
use Rattle.check_laws.proofs.all_is_known.Goals as goal

pub returns : goal.returns
returns c = all_is_known
