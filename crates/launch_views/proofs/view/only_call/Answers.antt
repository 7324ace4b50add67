use Rattle.launch_views.proofs.Laws.{longer_is_none}
use Rattle.launch_views.proofs.view.only_call.Goals as goal

pub returns-in-len2-up-clause-none : goal.returns-in-len2-up-clause-none
returns-in-len2-up-clause-none c = longer_is_none c.args.body.now c.in-len2-up.len_at_least
