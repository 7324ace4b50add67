use Rattle.std.proofs.Common.{subst, sym}
use Rattle.physical_instances.specs.Kept.{map_of}
use Rattle.board_terms.specs.States.{State, operation_at}
use Rattle.board_state.proofs.Called.{calls_stay, frame_needs}
use Rattle.board_state.specs.Kept.{state_of}
use Rattle.board_state.specs.Steps.{HasLeft}
use Rattle.board_state.proofs.state.BoardState.give_calling.Goals as goal

pub invariant_of-self : goal.invariant_of-self
invariant_of-self c =
    let k = c.args.op.0 in
    let s : State = state_of c.self.inside.tree c.self.inside.roots.items (map_of c.self.inside.contents) c.self.inside.operations.items c.self.inside.graph c.self.inside.turns in
    calls_stay c.args.code.now c.args.turns s k c.args.after.now c.give_calls.result c.give_calls.new.operations.items c.give_calls.new.graph
    (map_of c.give_calls.new.contents) c.self.invariant (subst (λ (t : State). HasLeft (operation_at t k).activity c.args.after.now) (sym c.self.view_is) c.requires)
    c.give_calls.ensures.operations c.give_calls.ensures.graph c.give_calls.ensures.map c.give_calls.ensures.unchanged c.give_calls.ensures.same

pub give_calls-requires-clause-needs : goal.give_calls-requires-clause-needs
give_calls-requires-clause-needs c =
    let k = c.args.op.0 in
    let s : State = state_of c.self.inside.tree c.self.inside.roots.items (map_of c.self.inside.contents) c.self.inside.operations.items c.self.inside.graph c.self.inside.turns in
    frame_needs s k c.args.after.now c.self.invariant (subst (λ (t : State). HasLeft (operation_at t k).activity c.args.after.now) (sym c.self.view_is) c.requires)
