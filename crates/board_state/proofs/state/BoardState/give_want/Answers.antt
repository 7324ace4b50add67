use Rattle.board_state.proofs.Given.{given_want, ok_then}
use Rattle.board_state.proofs.state.BoardState.give_want.Goals as goal

pub returns-clause-given : goal.returns-clause-given
returns-clause-given c =
    let s = c.args.self.now in
    let k = c.args.op.0 in
    ok_then c.give_wanting.result _ _ c.give_wanting.ensures.parked
    (λ h code turns. given_want code turns s c.give_wanting.new.self k c.args.after.now c.args.root c.args.field c.give_wanting.ensures.kept c.requires.left c.requires.ends h)
