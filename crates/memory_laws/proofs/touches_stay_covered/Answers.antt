use Rattle.memory_laws.proofs.Covering.{covered_stays, made_covers}
use Rattle.memory_laws.proofs.touches_stay_covered.Goals as goal

pub returns-clause-kept : goal.returns-clause-kept
returns-clause-kept c = covered_stays

pub returns-clause-made : goal.returns-clause-made
returns-clause-made c = made_covers
