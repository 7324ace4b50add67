use Rattle.std.proofs.Common.{arith}
use Rattle.trace_picture.proofs.Viewing.{judged}
use Rattle.trace_picture.proofs.view.judge_text.Goals as goal

pub returns-in-Ok : goal.returns-in-Ok
returns-in-Ok c = judged _ _ _ (rw c.as_slice.ensures.value at c.shown.ensures)
    (record { is_text = c.in-Ok.ensures.ok; entries = c.in-Ok.ensures.entries; fits = omega arith })
