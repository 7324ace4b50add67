use Rattle.std.proofs.Common.{◌≡◌, take}
use Rattle.compile_statements.proofs.scope.facts_of.Given as goal

abbrev pub invariant-loop-fact : goal.invariant-loop-fact
invariant-loop-fact l = l.facts ≡ take l.fact-index l.known
