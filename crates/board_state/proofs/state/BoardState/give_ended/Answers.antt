use Rattle.std.proofs.Common.{rules, ◌≡◌, get_or, subst, sym}
use Rattle.physical_instances.specs.Kept.{map_of}
use Rattle.board_terms.specs.declared.operation.Ending.TheVariants.{Value}
use Rattle.board_terms.specs.States.{State, operation_at}
use Rattle.board_state.specs.Kept.{state_of}
use Rattle.board_state.specs.Steps.{HasLeft}
use Rattle.board_state.proofs.Gives.{ended_stays}
use Rattle.board_state.proofs.Roots.{live_given}
use Rattle.board_state.proofs.state.BoardState.give_ended.Goals as goal

pub invariant_of-self : goal.invariant_of-self
invariant_of-self c =
    let k = c.args.op.0 in
    let s : State = state_of c.self.inside.tree c.self.inside.roots.items (map_of c.self.inside.contents) c.self.inside.operations.items c.self.inside.graph c.self.inside.turns in
    let there : c.index_mut-operation.result.now ≡ get_or c.self.inside.operations.items c.args.op.0 c.index_mut-operation.result.now = search (rules) in
    ended_stays s k c.args.after.now c.index_mut-operation.result.now c.end.new.operation c.self.invariant
    (subst (λ (t : State). HasLeft (operation_at t k).activity c.args.after.now) (sym c.self.view_is) c.requires) there
    c.end.result (Value c.args.value) (map_of c.end.new.contents)
    (live_given c.end.result s.tree.roots c.args.after.now.parts s.map (map_of c.end.new.contents) c.end.ensures.map c.end.ensures.same
    c.self.invariant.live)
    c.end.ensures.ended c.end.ensures.unchanged
