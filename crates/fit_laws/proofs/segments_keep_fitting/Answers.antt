use Rattle.fit_laws.proofs.Segments.{segments_keep_fitting, no_segment_breaks}
use Rattle.fit_laws.proofs.segments_keep_fitting.Goals as goal

pub returns-clause-fits : goal.returns-clause-fits
returns-clause-fits c = segments_keep_fitting

pub returns-clause-unbroken : goal.returns-clause-unbroken
returns-clause-unbroken c = no_segment_breaks
