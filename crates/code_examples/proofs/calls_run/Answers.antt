use Rattle.code_examples.proofs.Calls.{writes_by_parts_runs_hold, overlapping_arguments_runs_hold, call_between_runs_hold, fault_in_loop_runs_hold, first_fault_runs_hold}
use Rattle.code_examples.proofs.calls_run.Goals as goal

pub returns-clause-writes_by_parts : goal.returns-clause-writes_by_parts
returns-clause-writes_by_parts c = writes_by_parts_runs_hold

pub returns-clause-overlapping_arguments : goal.returns-clause-overlapping_arguments
returns-clause-overlapping_arguments c = overlapping_arguments_runs_hold

pub returns-clause-call_between : goal.returns-clause-call_between
returns-clause-call_between c = call_between_runs_hold

pub returns-clause-fault_in_loop : goal.returns-clause-fault_in_loop
returns-clause-fault_in_loop c = fault_in_loop_runs_hold

pub returns-clause-first_fault : goal.returns-clause-first_fault
returns-clause-first_fault c = first_fault_runs_hold
