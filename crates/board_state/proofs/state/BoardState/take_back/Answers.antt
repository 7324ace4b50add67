use Rattle.std.proofs.Common.{rules, ◌≡◌, ◌∙◌, ap, get_or}
use Rattle.physical_instances.specs.Kept.{map_of}
use Rattle.board_terms.specs.States.{State, operation_at}
use Rattle.board_state.specs.Kept.{is_claimed, state_of}
use Rattle.board_state.proofs.Claims.{back_stays, claimed_there}
use Rattle.board_state.proofs.state.BoardState.take_back.Goals as goal

pub invariant_of-self : goal.invariant_of-self
invariant_of-self c =
    let k = c.args.op.0 in
    let s : State = state_of c.self.inside.tree c.self.inside.roots.items (map_of c.self.inside.contents) c.self.inside.operations.items c.self.inside.graph c.self.inside.turns in
    let there : c.index_mut.result.now ≡ get_or c.self.inside.operations.items c.args.op.0 c.index_mut.result.now = search (rules) in
    back_stays s k c.index_mut.result.now c.wait_for_nothing.new.graph c.self.invariant
    (claimed_there s k (ap (λ (t : State). is_claimed (operation_at t k).activity) c.self.view_is ∙ c.requires)) there c.wait_for_nothing.ensures
