use Rattle.std.proofs.Common.{◌≡◌, ◌++◌, drop}
use Rattle.run_journal.specs.Journals.{text_of}
use Rattle.run_journal.proofs.write.journal_text.Given as goal

-- with the lines that are left it comes to the whole text
abbrev pub invariant-loop-entry : goal.invariant-loop-entry
invariant-loop-entry l = l.text.items ++ text_of (drop l.entry-index l.journal) ≡ text_of l.journal
