use Rattle.code_examples.proofs.Numbers.{assignment_runs_hold, narrow_product_runs_hold, empty_task_runs_hold, signed_division_runs_hold, input_printed_runs_hold}
use Rattle.code_examples.proofs.numbers_run.Goals as goal

pub returns-clause-assignment : goal.returns-clause-assignment
returns-clause-assignment c = assignment_runs_hold

pub returns-clause-narrow_product : goal.returns-clause-narrow_product
returns-clause-narrow_product c = narrow_product_runs_hold

pub returns-clause-empty_task : goal.returns-clause-empty_task
returns-clause-empty_task c = empty_task_runs_hold

pub returns-clause-signed_division : goal.returns-clause-signed_division
returns-clause-signed_division c = signed_division_runs_hold

pub returns-clause-input_printed : goal.returns-clause-input_printed
returns-clause-input_printed c = input_printed_runs_hold
