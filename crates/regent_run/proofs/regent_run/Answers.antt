use Rattle.std.proofs.Common.{ℕ, List, Err, ap, subst}
use Rattle.command_words.specs.Given.{texts}
use Rattle.regent_run.specs.Calls.{source_change}
use Rattle.regent_run.specs.Reading.{UsesSource}
use Rattle.regent_run.specs.Words.{request}
use Rattle.regent_run.proofs.Answering.{answered}
use Rattle.regent_run.proofs.regent_run.Goals as goal

pub returns-clause-answers : goal.returns-clause-answers
returns-clause-answers g c =
    answered _ c.with_workers-verdict.result c.deliver.result
    (rw c.as_slice.ensures.value at c.with_workers-verdict.ensures.told)
    (subst (λ (words : List (List ℕ)). UsesSource (request words) (source_change g.S.Source c.args.source.now c.with_workers-verdict.new.source) (Err c.with_workers-verdict.result))
    (ap texts c.as_slice.ensures.value) c.with_workers-verdict.ensures.uses)
    c.deliver.ensures
