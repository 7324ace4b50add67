use Rattle.board_state.proofs.Given.{given_partition, ok_then}
use Rattle.board_state.proofs.Gives.{left_there}
use Rattle.board_state.proofs.state.BoardState.give_partition.Goals as goal

pub returns-clause-given : goal.returns-clause-given
returns-clause-given c =
    let s = c.args.self.now in
    let k = c.args.op.0 in
    ok_then c.give_parting.result _ _ c.give_parting.ensures.made
    (λ h code turns. given_partition code turns s c.give_parting.new.self k c.args.after.now c.args.region c.args.sets.items
    c.args.disjoint (left_there s k c.args.after.now c.requires.left) c.requires.ends h)
