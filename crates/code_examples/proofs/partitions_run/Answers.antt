use Rattle.code_examples.proofs.Partitions.{equal_sizes_runs_hold, sizes_by_field_runs_hold, set_operations_runs_hold, bad_colour_runs_hold}
use Rattle.code_examples.proofs.partitions_run.Goals as goal

pub returns-clause-equal_sizes : goal.returns-clause-equal_sizes
returns-clause-equal_sizes c = equal_sizes_runs_hold

pub returns-clause-sizes_by_field : goal.returns-clause-sizes_by_field
returns-clause-sizes_by_field c = sizes_by_field_runs_hold

pub returns-clause-set_operations : goal.returns-clause-set_operations
returns-clause-set_operations c = set_operations_runs_hold

pub returns-clause-bad_colour : goal.returns-clause-bad_colour
returns-clause-bad_colour c = bad_colour_runs_hold
