use Rattle.std.proofs.Common.{rules, ◌≡◌, get_or, subst, sym}
use Rattle.physical_instances.specs.Kept.{map_of}
use Rattle.std.proofs.Common.{slice_get}
use Rattle.board_terms.specs.declared.operation.Wait.TheVariants as wait
use Rattle.board_terms.specs.Gives.{waits_for}
use Rattle.board_terms.specs.States.{State, operation_at}
use Rattle.board_state.specs.Kept.{state_of}
use Rattle.board_state.specs.Steps.{HasLeft}
use Rattle.board_state.proofs.Gives.{parked_stays}
use Rattle.board_state.proofs.state.BoardState.give_awaiting.Goals as goal

pub invariant_of-self : goal.invariant_of-self
invariant_of-self c =
    let k = c.args.op.0 in
    let s : State = state_of c.self.inside.tree c.self.inside.roots.items (map_of c.self.inside.contents) c.self.inside.operations.items c.self.inside.graph c.self.inside.turns in
    let there : c.index_mut-operation.result.now ≡ get_or c.self.inside.operations.items c.args.op.0 c.index_mut-operation.result.now = search (rules) in
    parked_stays s k c.args.after.now c.index_mut-operation.result.now c.await_child.new.operation c.self.invariant
    (subst (λ (t : State). HasLeft (operation_at t k).activity c.args.after.now) (sym c.self.view_is) c.requires) there
    c.await_child.result (wait.Child c.args.place) (waits_for (slice_get c.index_mut-operation.result.now.children c.args.place)) c.await_child.new.graph
    c.await_child.ensures.operation c.await_child.ensures.graph c.await_child.ensures.unchanged c.await_child.ensures.same
