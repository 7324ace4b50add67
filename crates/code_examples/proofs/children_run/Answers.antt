use Rattle.code_examples.proofs.Children.{children_mean_hold, children_run_hold}
use Rattle.code_examples.proofs.children_run.Goals as goal

pub returns-clause-children_mean : goal.returns-clause-children_mean
returns-clause-children_mean c = children_mean_hold

pub returns-clause-children_run : goal.returns-clause-children_run
returns-clause-children_run c = children_run_hold
