use Rattle.region_tree.proofs.Sweeping.{IsSwept}
use Rattle.region_tree.proofs.sweep.first_shared.Given as goal

abbrev pub invariant-loop-span : goal.invariant-loop-span
invariant-loop-span l = IsSwept l.spans l.span-index l.reach
