use Rattle.journal_progress.proofs.Journals.{own_roots_are_apart}
use Rattle.journal_progress.proofs.own_roots_are_apart.Goals as goal

-- src/lib.rt
pub returns : goal.returns
returns c = own_roots_are_apart
