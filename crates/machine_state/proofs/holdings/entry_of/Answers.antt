use Rattle.std.proofs.Common.{sym}
use Rattle.machine_state.proofs.Spots.{past_set}
use Rattle.machine_state.proofs.holdings.entry_of.Goals as goal

pub returns-in-Some-clause-set : goal.returns-in-Some-clause-set
returns-in-Some-clause-set c =
    past_set c.args.pieces.now c.args.point c.loop-piece.piece c.in-Some.place c.index-pieces-piece.result _
    c.loop-piece-test.true (sym c.index-pieces-piece.is) c.in-Some.ensures.some c.in-Some.ensures.set
    c.loop-piece.invariant
