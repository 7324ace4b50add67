use Rattle.std.proofs.Common.{rules, ◌≡◌, ◌∙◌, ◌++◌, ◌∷◌, [], ap, sym}
use Rattle.run_journal.specs.Journals.{text_of}
use Rattle.run_journal.proofs.Lines.{read_more, text_behind}
use Rattle.run_journal.proofs.read.journal_read.Goals as goal

pub loop-rest-preserved : goal.loop-rest-preserved
loop-rest-preserved c =
    let items : c.push.new.self.items ≡ c.loop-rest.journal.items ++ c.in-Some.entry ∷ [] = search rules in (
      c.loop-rest.invariant.0 ∙ ap (λ xs. text_of c.loop-rest.journal.items ++ xs) c.in-Some.ensures.some
          ∙ sym (text_behind c.loop-rest.journal.items c.in-Some.entry c.in-Some.behind.now)
          ∙ ap (λ es. text_of es ++ c.in-Some.behind.now) (sym items),
      read_more c.loop-rest.journal.items c.push.new.self.items c.in-Some.entry c.loop-rest.invariant.1 c.in-Some.ensures.entry items,
    )
