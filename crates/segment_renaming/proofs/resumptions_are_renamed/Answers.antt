use Rattle.segment_renaming.proofs.Openings.{awaited_renamed, openings_renamed, partitions_renamed, roots_renamed}
use Rattle.segment_renaming.proofs.resumptions_are_renamed.Goals as goal

pub returns-clause-awaited : goal.returns-clause-awaited
returns-clause-awaited c = awaited_renamed

pub returns-clause-opening : goal.returns-clause-opening
returns-clause-opening c = openings_renamed

pub returns-clause-root : goal.returns-clause-root
returns-clause-root c = roots_renamed

pub returns-clause-partition : goal.returns-clause-partition
returns-clause-partition c = partitions_renamed
