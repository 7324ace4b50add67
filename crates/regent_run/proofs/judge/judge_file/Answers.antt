use Rattle.regent_run.specs.Words.{deed_given}
use Rattle.regent_run.proofs.Judging.{says_of_file}
use Rattle.regent_run.proofs.judge.judge_file.Goals as goal

pub returns-in-Ok-read_text-clause-said : goal.returns-in-Ok-read_text-clause-said
returns-in-Ok-read_text-clause-said g c =
    let judged = rw c.as_slice.ensures.value at c.judge_text.ensures in
    says_of_file c.args.file.now (deed_given c.args.deed.now) (g.S.Source.later c.args.source.now) c.in-Ok-read_text.text.items
    (g.S.Source.left c.read_text.new.source) c.judge_text.result _ _
    c.in-Ok-read_text.ensures.text c.in-Ok-read_text.ensures.whole judged
