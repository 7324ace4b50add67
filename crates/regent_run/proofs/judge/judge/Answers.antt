use Rattle.std.proofs.Common.{Option, subst, sym}
use Rattle.command_words.specs.Given.{command_given, texts}
use Rattle.regent_run.specs.Verdicts.{Says}
use Rattle.regent_run.specs.Words.{Request, request_given}
use Rattle.regent_run.proofs.Judging.{asked_is}
use Rattle.regent_run.proofs.judge.judge.Goals as goal

pub returns-clause-said : goal.returns-clause-said
returns-clause-said g c =
    subst (λ (asked : Option Request). Says asked (g.S.Source.later c.args.source.now) (g.S.Source.faults c.args.source.now)
    (g.S.Source.faults c.judge_request.new.source) c.judge_request.result)
    (sym (asked_is (texts c.args.words.now) (command_given c.in-Ok.said) (request_given c.asked_by.result) c.in-Ok.ensures.taken c.asked_by.ensures))
    c.judge_request.ensures.said
