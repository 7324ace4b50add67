use Rattle.code_examples.proofs.Pointers.{null_pointer_runs_hold, outside_region_runs_hold, positions_runs_hold, circuit_runs_hold, pointer_arithmetic_runs_hold, null_on_the_right_runs_hold, null_on_the_left_runs_hold}
use Rattle.code_examples.proofs.pointers_run.Goals as goal

pub returns-clause-null_pointer : goal.returns-clause-null_pointer
returns-clause-null_pointer c = null_pointer_runs_hold

pub returns-clause-outside_region : goal.returns-clause-outside_region
returns-clause-outside_region c = outside_region_runs_hold

pub returns-clause-positions : goal.returns-clause-positions
returns-clause-positions c = positions_runs_hold

pub returns-clause-circuit : goal.returns-clause-circuit
returns-clause-circuit c = circuit_runs_hold

pub returns-clause-pointer_arithmetic : goal.returns-clause-pointer_arithmetic
returns-clause-pointer_arithmetic c = pointer_arithmetic_runs_hold

pub returns-clause-null_on_the_right : goal.returns-clause-null_on_the_right
returns-clause-null_on_the_right c = null_on_the_right_runs_hold

pub returns-clause-null_on_the_left : goal.returns-clause-null_on_the_left
returns-clause-null_on_the_left c = null_on_the_left_runs_hold
