use Rattle.std.proofs.Common.{rules}
use Rattle.std.proofs.lemmas.Fn.{filter_same}
use Rattle.plain_run.specs.Answers.{may_ask}
use Rattle.plain_run.specs.declared.answers.Answer.{Answer}
use Rattle.plain_run.proofs.answers.keep_asked.Goals as goal

pub returns : goal.returns
returns c = filter_same _ (λ (x : Answer). may_ask c.args.children c.args.pending.now x.child) _ (λ x b f k. search rules) _ _ c.retain.ensures.filtered
