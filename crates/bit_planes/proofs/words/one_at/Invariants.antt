use Rattle.bit_planes.proofs.Searches.{IsOne}
use Rattle.bit_planes.proofs.words.one_at.Given as goal

abbrev pub invariant-loop : goal.invariant-loop
invariant-loop l = IsOne l.word l.counter l.bit
