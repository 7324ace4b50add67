use Rattle.fit_rules.proofs.Example.{example_fits}
use Rattle.fit_rules.proofs.Misfits.{fails_each_point}
use Rattle.fit_rules.proofs.Stacked.{child_is_known, count_is_known, held_is_known}
use Rattle.fit_rules.proofs.example_fits.Goals as goal

pub returns-clause-fits : goal.returns-clause-fits
returns-clause-fits c = example_fits

pub returns-clause-fails : goal.returns-clause-fails
returns-clause-fails c = fails_each_point

pub returns-clause-child : goal.returns-clause-child
returns-clause-child c = child_is_known

pub returns-clause-held : goal.returns-clause-held
returns-clause-held c = held_is_known

pub returns-clause-count : goal.returns-clause-count
returns-clause-count c = count_is_known
