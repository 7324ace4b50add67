use Rattle.board_state.proofs.Given.{given_root, ok_then}
use Rattle.board_state.proofs.Gives.{left_there}
use Rattle.board_state.proofs.state.BoardState.give_root.Goals as goal

pub returns-clause-given : goal.returns-clause-given
returns-clause-given c =
    let s = c.args.self.now in
    let k = c.args.op.0 in
    ok_then c.give_rooted.result _ _ c.give_rooted.ensures.made
    (λ h turns. given_root c.args.code.now turns s c.give_rooted.new.self k c.args.after.now c.args.space c.args.fields
    (left_there s k c.args.after.now c.requires.left) c.requires.ends h)
