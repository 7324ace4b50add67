use Rattle.trace_picture.proofs.Viewing.{says}
use Rattle.trace_picture.proofs.view.judge.Goals as goal

pub returns-in-Ok-clause-says : goal.returns-in-Ok-clause-says
returns-in-Ok-clause-says g c = says _ _ _ _ _ _ c.in-Ok.ensures.text c.in-Ok.ensures.whole (rw c.as_slice.ensures.value at c.judge_text.ensures)
