use Rattle.code_examples.proofs.Statements.{hidden_names_runs_hold, choices_runs_hold, early_stop_runs_hold, early_return_runs_hold, filled_runs_hold, false_assert_runs_hold}
use Rattle.code_examples.proofs.statements_run.Goals as goal

pub returns-clause-hidden_names : goal.returns-clause-hidden_names
returns-clause-hidden_names c = hidden_names_runs_hold

pub returns-clause-choices : goal.returns-clause-choices
returns-clause-choices c = choices_runs_hold

pub returns-clause-early_stop : goal.returns-clause-early_stop
returns-clause-early_stop c = early_stop_runs_hold

pub returns-clause-early_return : goal.returns-clause-early_return
returns-clause-early_return c = early_return_runs_hold

pub returns-clause-filled : goal.returns-clause-filled
returns-clause-filled c = filled_runs_hold

pub returns-clause-false_assert : goal.returns-clause-false_assert
returns-clause-false_assert c = false_assert_runs_hold
