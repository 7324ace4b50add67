use Rattle.code_laws.proofs.Top.{handing_programs_end_well}
use Rattle.code_laws.proofs.handing_programs_end_well.Goals as goal

pub returns : goal.returns
returns c = handing_programs_end_well
