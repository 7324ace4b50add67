use Rattle.fit_laws.proofs.Fetching.{parts_are_fetched}
use Rattle.fit_laws.proofs.Made.{roots_are_claimed, partitions_are_made}
use Rattle.fit_laws.proofs.made_things_are_as_asked.Goals as goal

pub returns-clause-roots : goal.returns-clause-roots
returns-clause-roots c = roots_are_claimed

pub returns-clause-partitions : goal.returns-clause-partitions
returns-clause-partitions c = partitions_are_made

pub returns-clause-parts : goal.returns-clause-parts
returns-clause-parts c = parts_are_fetched
