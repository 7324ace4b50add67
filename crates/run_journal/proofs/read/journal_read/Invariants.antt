use Rattle.std.proofs.Common.{All, ◌≡◌, ◌++◌, length}
use Rattle.run_journal.specs.Journals.{IsEntry, text_of}
use Rattle.run_journal.proofs.read.journal_read.Given as goal

-- the lines that were read stand before what is left
abbrev pub invariant-loop-rest : goal.invariant-loop-rest
invariant-loop-rest l = (l.text ≡ text_of l.journal.items ++ l.rest) × All IsEntry l.journal.items

abbrev pub decreases-loop-rest : goal.decreases-loop-rest
decreases-loop-rest l = length l.rest
