use Rattle.memory_laws.proofs.Finding.{covered_is_found, fetched_is_found, allowed_is_written}
use Rattle.memory_laws.proofs.Touching.{found_is_read}
use Rattle.memory_laws.proofs.touches_find.Goals as goal

pub returns-clause-covered : goal.returns-clause-covered
returns-clause-covered c = covered_is_found

pub returns-clause-fetched : goal.returns-clause-fetched
returns-clause-fetched c = fetched_is_found

pub returns-clause-read : goal.returns-clause-read
returns-clause-read c = found_is_read

pub returns-clause-written : goal.returns-clause-written
returns-clause-written c = allowed_is_written
