use Rattle.board_calls.specs.Calls.{calls_in}
use Rattle.board_state.proofs.CallsGiven.{given_calls}
use Rattle.board_state.proofs.Given.{ok_then}
use Rattle.board_state.proofs.state.BoardState.give_calls.Goals as goal

pub returns-clause-given : goal.returns-clause-given
returns-clause-given c =
    let s = c.args.self.now in
    let k = c.args.op.0 in
    ok_then c.give_calling.result _ _ c.give_calling.ensures.called
    (λ h. given_calls c.args.code.now c.args.turns s c.give_calling.new.self k c.args.after.now (calls_in c.args.after.now.ends)
    c.requires.left c.requires.ends h)
