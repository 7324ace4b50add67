use Rattle.read_statements.proofs.BlockLaws.{armed_is}
use Rattle.read_statements.proofs.forms.arm_of.Goals as goal

pub returns : goal.returns
returns c = armed_is _ _ _ c.new.ensures
