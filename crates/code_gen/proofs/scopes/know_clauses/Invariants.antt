use Rattle.std.proofs.Common.{◌≡◌, drop}
use Rattle.regent_tree.specs.Scopes.{knowing, known_of_clauses}
use Rattle.compile_statements.specs.Scopes.{seen}
use Rattle.code_gen.proofs.scopes.know_clauses.Given as goal

abbrev pub invariant-loop-clause : goal.invariant-loop-clause
invariant-loop-clause l = knowing (seen l.scope) (known_of_clauses l.params (drop l.clause-index l.clauses))
    ≡ knowing (seen l.fn.scope) (known_of_clauses l.params l.clauses)
