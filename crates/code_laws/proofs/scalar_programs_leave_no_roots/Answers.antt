use Rattle.code_laws.proofs.ScalarRuns.{scalar_programs_leave_no_roots}
use Rattle.code_laws.proofs.scalar_programs_leave_no_roots.Goals as goal

pub returns : goal.returns
returns c = scalar_programs_leave_no_roots
