use Rattle.journal_progress.proofs.HeldLaws.{held_parts_are_apart_now}
use Rattle.journal_progress.proofs.held_parts_are_apart_now.Goals as goal

-- src/lib.rt
pub returns : goal.returns
returns c = held_parts_are_apart_now
