use Rattle.std.proofs.Common.{rules, ◌≡◌, get_or, subst, sym}
use Rattle.region_finder.proofs.Staying.{listings_stay}
use Rattle.physical_instances.specs.Kept.{map_of}
use Rattle.board_terms.specs.States.{State, operation_at}
use Rattle.board_state.specs.Kept.{state_of}
use Rattle.board_state.specs.Steps.{HasLeft}
use Rattle.board_state.proofs.Makes.{rooted_stays}
use Rattle.board_state.proofs.state.BoardState.give_rooted.Goals as goal

pub wait_for_nothing-requires-clause-listing : goal.wait_for_nothing-requires-clause-listing
wait_for_nothing-requires-clause-listing c =
    listings_stay c.self.inside.tree c.make_root.new.tree c.self.inside.graph.listing c.in_ok-make_root.ensures.forest
    c.in_ok-make_root.ensures.grows c.self.invariant.listing

pub invariant_of-self-2 : goal.invariant_of-self-2
invariant_of-self-2 c =
    let k = c.args.op.0 in
    let s : State = state_of c.self.inside.tree c.self.inside.roots.items (map_of c.self.inside.contents) c.self.inside.operations.items c.self.inside.graph c.self.inside.turns in
    let there : c.index_mut-operation.result.now ≡ get_or c.self.inside.operations.items c.args.op.0 c.index_mut-operation.result.now = search (rules) in
    rooted_stays s k c.args.after.now c.index_mut-operation.result.now c.make_root.new.operation c.self.invariant
    (subst (λ (t : State). HasLeft (operation_at t k).activity c.args.after.now) (sym c.self.view_is) c.requires) there
    c.make_root.new.tree c.make_root.new.roots.items (map_of c.make_root.new.contents) c.wait_for_nothing.new.graph
    c.args.code.now c.args.space c.args.fields c.in_ok-make_root.ensures.forest c.in_ok-make_root.ensures.grows
    c.in_ok-make_root.ensures.tree c.in_ok-make_root.ensures.map c.in_ok-make_root.ensures.operation c.wait_for_nothing.ensures
