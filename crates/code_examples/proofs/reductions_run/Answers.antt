use Rattle.code_examples.proofs.Reductions.{reducing_calls_runs_hold, wrapping_reduction_runs_hold, least_lowered_runs_hold, least_kept_runs_hold, narrow_least_runs_hold}
use Rattle.code_examples.proofs.reductions_run.Goals as goal

pub returns-clause-reducing_calls : goal.returns-clause-reducing_calls
returns-clause-reducing_calls c = reducing_calls_runs_hold

pub returns-clause-wrapping_reduction : goal.returns-clause-wrapping_reduction
returns-clause-wrapping_reduction c = wrapping_reduction_runs_hold

pub returns-clause-least_lowered : goal.returns-clause-least_lowered
returns-clause-least_lowered c = least_lowered_runs_hold

pub returns-clause-least_kept : goal.returns-clause-least_kept
returns-clause-least_kept c = least_kept_runs_hold

pub returns-clause-narrow_least : goal.returns-clause-narrow_least
returns-clause-narrow_least c = narrow_least_runs_hold
