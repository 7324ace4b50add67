use Rattle.fit_laws.proofs.Passing.{children_pass}
use Rattle.fit_laws.proofs.Segments.{touches_are_covered, children_are_within, partitions_are_sound}
use Rattle.fit_laws.proofs.segments_keep_their_declarations.Goals as goal

pub returns-clause-touches : goal.returns-clause-touches
returns-clause-touches c = touches_are_covered

pub returns-clause-children : goal.returns-clause-children
returns-clause-children c = children_are_within

pub returns-clause-tested : goal.returns-clause-tested
returns-clause-tested c = children_pass

pub returns-clause-partitions : goal.returns-clause-partitions
returns-clause-partitions c = partitions_are_sound
