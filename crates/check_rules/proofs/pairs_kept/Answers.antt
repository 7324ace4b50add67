use Rattle.check_rules.proofs.Laws as laws
use Rattle.check_rules.proofs.pairs_kept.Goals as goal

-- src/lib.rt:31:1
pub returns : goal.returns
returns c = laws.pairs_kept
