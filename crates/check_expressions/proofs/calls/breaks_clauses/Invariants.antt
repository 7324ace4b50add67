use Rattle.std.proofs.Common.{◌≡◌, drop}
use Rattle.std.specs.List.{list_any}
use Rattle.check_rules.specs.rules.Constraints.{breaks_clause}
use Rattle.check_expressions.proofs.calls.breaks_clauses.Given as goal

abbrev pub invariant-loop-clause : goal.invariant-loop-clause
invariant-loop-clause l = list_any (breaks_clause l.facts l.params l.types) (drop l.clause-index l.task.clauses)
    ≡ list_any (breaks_clause l.facts l.task.params l.types) l.task.clauses
