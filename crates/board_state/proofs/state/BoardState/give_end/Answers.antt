use Rattle.board_state.proofs.Given.{given_end, ok_then}
use Rattle.board_state.proofs.Gives.{left_there}
use Rattle.board_state.proofs.state.BoardState.give_end.Goals as goal

pub returns-clause-given : goal.returns-clause-given
returns-clause-given c =
    let s = c.args.self.now in
    let k = c.args.op.0 in
    ok_then c.give_ended.result _ _ c.give_ended.ensures.ended
    (λ h code turns. given_end code turns s c.give_ended.new.self k c.args.after.now c.args.value (left_there s k c.args.after.now c.requires.left) c.requires.ends h)
