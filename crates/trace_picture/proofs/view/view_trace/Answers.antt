use Rattle.trace_picture.proofs.Viewing.{ends}
use Rattle.trace_picture.proofs.view.view_trace.Goals as goal

pub returns-clause-ends : goal.returns-clause-ends
returns-clause-ends g c = ends _ _ _ _ _ c.judge-verdict.ensures.says c.deliver.ensures
