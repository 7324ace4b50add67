use Rattle.std.proofs.Common.{◌∙◌}
use Rattle.read_statements.proofs.BlockLaws.{chosen_is}
use Rattle.read_statements.proofs.forms.chosen.Goals as goal

pub returns : goal.returns
returns c = c.choice.ensures ∙ chosen_is _ _ _ _ c.in_ok-insert.ensures.items
