use Rattle.std.proofs.Common.{◌≡◌, take}
use Rattle.board_state.proofs.making.copy_parting.Given as goal

abbrev pub invariant-loop-set : goal.invariant-loop-set
invariant-loop-set l = l.copies.items ≡ take l.set-index l.sets
