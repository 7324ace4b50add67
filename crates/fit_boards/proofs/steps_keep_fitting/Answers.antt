use Rattle.fit_boards.proofs.Steps.{new_boards_fit, outs_fit, steps_keep_fitting}
use Rattle.fit_boards.proofs.steps_keep_fitting.Goals as goal

pub returns-clause-new : goal.returns-clause-new
returns-clause-new c = new_boards_fit

pub returns-clause-steps : goal.returns-clause-steps
returns-clause-steps c = steps_keep_fitting

pub returns-clause-out : goal.returns-clause-out
returns-clause-out c = outs_fit
