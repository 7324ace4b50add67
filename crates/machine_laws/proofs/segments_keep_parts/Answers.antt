use Rattle.machine_laws.proofs.Parts.{segments_keep_parts}
use Rattle.machine_laws.proofs.segments_keep_parts.Goals as goal

pub returns : goal.returns
returns c = segments_keep_parts
