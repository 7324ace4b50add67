use Rattle.std.proofs.Common.{rules, ◌≡◌, ◌∙◌, ap, get_or}
use Rattle.physical_instances.specs.Kept.{map_of}
use Rattle.board_terms.specs.States.{State, operation_at}
use Rattle.board_state.specs.Kept.{state_of}
use Rattle.board_state.specs.Steps.{has_more}
use Rattle.board_state.proofs.Copies.{more_stays}
use Rattle.board_state.proofs.state.BoardState.fill_more.Goals as goal

pub invariant_of-self : goal.invariant_of-self
invariant_of-self c =
    let k = c.args.op.0 in
    let s : State = state_of c.self.inside.tree c.self.inside.roots.items (map_of c.self.inside.contents) c.self.inside.operations.items c.self.inside.graph c.self.inside.turns in
    let there : c.index_mut.result.now ≡ get_or c.self.inside.operations.items c.args.op.0 c.index_mut.result.now = search (rules) in
    more_stays s k c.index_mut.result.now c.fill_next.new.activity (map_of c.fill_next.new.contents) c.self.invariant
    (ap (λ (t : State). has_more (operation_at t k).activity) c.self.view_is ∙ c.requires) there
    c.fill_next.ensures.activity c.fill_next.ensures.map
