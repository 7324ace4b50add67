use Rattle.std.proofs.Common.{◌≡◌, [], ◌∷◌, length}
use Rattle.regent_grammar.specs.Reading.{reading}
use Rattle.regent_grammar.specs.Rules.{many}
use Rattle.regent_grammar.specs.Items.{is_grant, grant}
use Rattle.regent_grammar.specs.Symbols.{comes}
use Rattle.read_terms.specs.Gives.{with_front}
use Rattle.read_items.proofs.task_clauses.more_grants.Given as goal

abbrev pub invariant-loop-rest : goal.invariant-loop-rest
invariant-loop-rest l =
    with_front l.grants (reading (many (comes is_grant) grant) l.rest)
    ≡ with_front (l.fn.first ∷ []) (reading (many (comes is_grant) grant) l.terminals)

abbrev pub decreases-loop-rest : goal.decreases-loop-rest
decreases-loop-rest l = length l.rest
