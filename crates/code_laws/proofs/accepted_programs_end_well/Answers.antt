use Rattle.code_laws.proofs.LocalRuns.{accepted_programs_end_well}
use Rattle.code_laws.proofs.accepted_programs_end_well.Goals as goal

pub returns : goal.returns
returns c = accepted_programs_end_well
