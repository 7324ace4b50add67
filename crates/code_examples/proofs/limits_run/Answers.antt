use Rattle.code_examples.proofs.Limits.{turns_enough_runs_hold, turns_spent_runs_hold, arguments_first_runs_hold, calls_too_deep_runs_hold, greatest_space_runs_hold, space_too_large_runs_hold}
use Rattle.code_examples.proofs.limits_run.Goals as goal

pub returns-clause-turns_enough : goal.returns-clause-turns_enough
returns-clause-turns_enough c = turns_enough_runs_hold

pub returns-clause-turns_spent : goal.returns-clause-turns_spent
returns-clause-turns_spent c = turns_spent_runs_hold

pub returns-clause-arguments_first : goal.returns-clause-arguments_first
returns-clause-arguments_first c = arguments_first_runs_hold

pub returns-clause-calls_too_deep : goal.returns-clause-calls_too_deep
returns-clause-calls_too_deep c = calls_too_deep_runs_hold

pub returns-clause-greatest_space : goal.returns-clause-greatest_space
returns-clause-greatest_space c = greatest_space_runs_hold

pub returns-clause-space_too_large : goal.returns-clause-space_too_large
returns-clause-space_too_large c = space_too_large_runs_hold
