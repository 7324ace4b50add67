use Rattle.std.proofs.Common.{ap, ◌∙◌}
use Rattle.std.specs.Prelude.{filter}
use Rattle.plain_run.specs.Answers.{KeptAnswers, may_ask}
use Rattle.plain_run.specs.declared.answers.Answer.{Answer}
use Rattle.plain_run.proofs.Answered.{let_go_none, let_go_some}
use Rattle.plain_run.proofs.answers.Answers.let_go.Goals as goal

pub returns-then-len-self : goal.returns-then-len-self
returns-then-len-self c = let_go_none c.args.self.now c.args.frame.now

pub returns : goal.returns
returns c =
    let_go_some c.args.self.now (record { kept = c.keep_asked.new.kept.items; count = c.self.inside.count }) c.args.frame.now c.as_slice.result.now
    (c.as_slice.ensures.value ∙ c.in_ok-pending.ensures)
    (c.keep_asked.ensures
    ∙ ap (λ (a : KeptAnswers). filter (λ (x : Answer). may_ask c.args.frame.now.children c.as_slice.result.now x.child) a.kept) c.self.view_is)
    (ap (λ (a : KeptAnswers). a.count) c.self.view_is)
