use Rattle.std.specs.Prelude.{refl}
use Rattle.check_examples.specs.ItemExamples.{calls_by_wrong_clauses_breaks, wrong_clauses_breaks, wrong_returns_breaks, nothing_to_start_breaks, wrong_starts_breaks, demanded_loops_breaks}

pub wrong_clauses_holds : wrong_clauses_breaks
wrong_clauses_holds = refl

pub wrong_returns_holds : wrong_returns_breaks
wrong_returns_holds = refl

pub nothing_to_start_holds : nothing_to_start_breaks
nothing_to_start_holds = refl

pub wrong_starts_holds : wrong_starts_breaks
wrong_starts_holds = refl

pub demanded_loops_holds : demanded_loops_breaks
demanded_loops_holds = refl

pub calls_by_wrong_clauses_holds : calls_by_wrong_clauses_breaks
calls_by_wrong_clauses_holds = refl
