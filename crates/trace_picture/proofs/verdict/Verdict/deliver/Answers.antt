use Rattle.std.proofs.Common.{refl}
use Rattle.trace_picture.proofs.verdict.Verdict.deliver.Goals as goal

pub returns-in-Unread : goal.returns-in-Unread
returns-in-Unread g c = rw c.in-Unread.is (c.put-in-Unread.ensures, (refl, refl))
