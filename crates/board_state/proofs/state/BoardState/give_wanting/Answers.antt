use Rattle.std.proofs.Common.{rules, ◌≡◌, get_or, subst, sym}
use Rattle.physical_instances.specs.Kept.{map_of}
use Rattle.std.proofs.Common.{filter}
use Rattle.dependence_graph.specs.declared.stage.Waiting.TheVariants as graph
use Rattle.board_terms.specs.declared.operation.Wait.TheVariants as wait
use Rattle.board_terms.specs.Gives.{is_on}
use Rattle.board_terms.specs.States.{State, operation_at}
use Rattle.board_state.specs.Kept.{state_of}
use Rattle.board_state.specs.Steps.{HasLeft}
use Rattle.board_state.proofs.Gives.{parked_stays}
use Rattle.board_state.proofs.state.BoardState.give_wanting.Goals as goal

pub invariant_of-self : goal.invariant_of-self
invariant_of-self c =
    let k = c.args.op.0 in
    let s : State = state_of c.self.inside.tree c.self.inside.roots.items (map_of c.self.inside.contents) c.self.inside.operations.items c.self.inside.graph c.self.inside.turns in
    let there : c.index_mut-operation.result.now ≡ get_or c.self.inside.operations.items c.args.op.0 c.index_mut-operation.result.now = search (rules) in
    parked_stays s k c.args.after.now c.index_mut-operation.result.now c.want.new.operation c.self.invariant
    (subst (λ (t : State). HasLeft (operation_at t k).activity c.args.after.now) (sym c.self.view_is) c.requires) there
    c.want.result (wait.Part c.args.root c.args.field)
    (graph.Part (record { items = filter (is_on c.args.root.0 c.args.field) c.index_mut-operation.result.now.frame.needs.items })) c.want.new.graph
    c.want.ensures.operation c.want.ensures.graph c.want.ensures.unchanged c.want.ensures.same
