use Rattle.std.proofs.Common.{arith}
use Rattle.std.proofs.lemmas.List.{reverse-append, length-reverse}
use Rattle.program_tables.proofs.Chains.{IsIndexed-bound}
use Rattle.program_tables.proofs.names.Names.bind.Goals as goal

pub invariant_of-self-2 : goal.invariant_of-self-2
invariant_of-self-2 c = rw (c.in_ok-push.ensures.items, c.in_ok-reserve.ensures.items, reverse-append)
    (IsIndexed-bound c.self.inside.innermost c.insert.new.self _ _ c.in_ok-key.key c.len-place.result c.self.invariant c.in_ok-key.ensures (rw length-reverse (omega arith)) c.in_ok-hides.ensures.old c.in_ok-hides.ensures.updates.0)
