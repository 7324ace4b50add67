use Rattle.board_state.proofs.Given.{given_broken, ok_then}
use Rattle.board_state.proofs.Gives.{left_there}
use Rattle.board_state.proofs.state.BoardState.give_broken.Goals as goal

pub returns-clause-given : goal.returns-clause-given
returns-clause-given c =
    let s = c.args.self.now in
    let k = c.args.op.0 in
    ok_then c.give_failed.result _ _ c.give_failed.ensures.ended
    (λ h code turns. given_broken code turns s c.give_failed.new.self k c.args.after.now (left_there s k c.args.after.now c.requires.left) c.requires.ends h)
