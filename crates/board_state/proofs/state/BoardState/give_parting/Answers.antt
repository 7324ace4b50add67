use Rattle.std.proofs.Common.{rules, ◌≡◌, get_or, refl, subst, sym}
use Rattle.region_finder.proofs.Staying.{listings_stay}
use Rattle.physical_instances.specs.Kept.{map_of}
use Rattle.board_terms.specs.States.{State, operation_at}
use Rattle.board_state.specs.Kept.{state_of}
use Rattle.board_state.specs.Steps.{HasLeft}
use Rattle.board_state.proofs.Makes.{broken_stays, parted_stays, refused_stays}
use Rattle.board_state.proofs.state.BoardState.give_parting.Goals as goal

pub wait_for_nothing-requires-clause-listing : goal.wait_for_nothing-requires-clause-listing
wait_for_nothing-requires-clause-listing c =
    listings_stay c.self.inside.tree c.make_partition.new.tree c.self.inside.graph.listing c.in_ok-make_partition.ensures.forest
    c.in_ok-make_partition.ensures.grows c.self.invariant.listing

pub invariant_of-self : goal.invariant_of-self
invariant_of-self c =
    let k = c.args.op.0 in
    let s : State = state_of c.self.inside.tree c.self.inside.roots.items (map_of c.self.inside.contents) c.self.inside.operations.items c.self.inside.graph c.self.inside.turns in
    let there : c.index_mut-operation.result.now ≡ get_or c.self.inside.operations.items c.args.op.0 c.index_mut-operation.result.now = search (rules) in
    refused_stays s k c.args.after.now c.index_mut-operation.result.now c.make_partition.new.operation c.self.invariant
    (subst (λ (t : State). HasLeft (operation_at t k).activity c.args.after.now) (sym c.self.view_is) c.requires) there
    c.make_partition.new.tree s.roots s.map c.in_err-make_partition.ensures.same refl refl c.in_err-make_partition.ensures.unchanged

pub invariant_of-self-then-branch : goal.invariant_of-self-then-branch
invariant_of-self-then-branch c =
    let k = c.args.op.0 in
    let s : State = state_of c.self.inside.tree c.self.inside.roots.items (map_of c.self.inside.contents) c.self.inside.operations.items c.self.inside.graph c.self.inside.turns in
    let there : c.index_mut-operation.result.now ≡ get_or c.self.inside.operations.items c.args.op.0 c.index_mut-operation.result.now = search (rules) in
    parted_stays s k c.args.after.now c.index_mut-operation.result.now c.make_partition.new.operation c.self.invariant
    (subst (λ (t : State). HasLeft (operation_at t k).activity c.args.after.now) (sym c.self.view_is) c.requires) there
    c.make_partition.new.tree c.wait_for_nothing.new.graph c.args.region.now c.args.sets.items c.args.disjoint
    c.in_ok-make_partition.ensures.forest c.in_ok-make_partition.ensures.grows
    (c.in_ok-make_partition.ensures.operation c.if-branch.true) c.wait_for_nothing.ensures

pub invariant_of-self-else-branch : goal.invariant_of-self-else-branch
invariant_of-self-else-branch c =
    let k = c.args.op.0 in
    let s : State = state_of c.self.inside.tree c.self.inside.roots.items (map_of c.self.inside.contents) c.self.inside.operations.items c.self.inside.graph c.self.inside.turns in
    let there : c.index_mut-operation.result.now ≡ get_or c.self.inside.operations.items c.args.op.0 c.index_mut-operation.result.now = search (rules) in
    broken_stays s k c.args.after.now c.index_mut-operation.result.now c.make_partition.new.operation c.self.invariant
    (subst (λ (t : State). HasLeft (operation_at t k).activity c.args.after.now) (sym c.self.view_is) c.requires) there
    c.make_partition.new.tree (c.in_ok-make_partition.ensures.refused c.if-branch.false)
    (c.in_ok-make_partition.ensures.broken c.if-branch.false)
