use Rattle.std.proofs.Common.{◌≡◌, drop, false}
use Rattle.regent_lex.specs.Search.{further, search}
use Rattle.regent_lex.proofs.search.search.Given as goal

abbrev pub invariant-loop-at : goal.invariant-loop-at
invariant-loop-at l =
    further l.at (search l.wanted l.state (drop l.at l.bytes)) ≡ search l.wanted false l.bytes
