use Rattle.board_state.proofs.Given.{given_await, ok_then}
use Rattle.board_state.proofs.Gives.{left_there}
use Rattle.board_state.proofs.state.BoardState.give_await.Goals as goal

pub returns-clause-given : goal.returns-clause-given
returns-clause-given c =
    let s = c.args.self.now in
    let k = c.args.op.0 in
    ok_then c.give_awaiting.result _ _ c.give_awaiting.ensures.parked
    (λ h code turns. given_await code turns s c.give_awaiting.new.self k c.args.after.now c.args.place (left_there s k c.args.after.now c.requires.left) c.requires.ends h)
