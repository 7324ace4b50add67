use Rattle.std.proofs.Common.{◌∙◌, All, ap, subst, sym}
use Rattle.physical_instances.specs.Kept.{map_of}
use Rattle.board_terms.specs.States.{State}
use Rattle.board_state.specs.Kept.{state_of}
use Rattle.board_terms.specs.Closings.{how_closed, may_close}
use Rattle.board_gives.specs.Makes.{IsRootBelow}
use Rattle.board_state.proofs.Closings.{over_stays}
use Rattle.board_state.proofs.Roots.{live_closed}
use Rattle.board_state.proofs.state.BoardState.close.Goals as goal

pub invariant_of-self : goal.invariant_of-self
invariant_of-self c =
    let k = c.args.op.0 in
    let s : State = state_of c.self.inside.tree c.self.inside.roots.items (map_of c.self.inside.contents) c.self.inside.operations.items c.self.inside.graph c.self.inside.turns in
    over_stays s k c.how_closed-how.result c.end.new.self _ c.self.invariant
    (ap (λ (t : State). may_close t k) c.self.view_is ∙ c.requires)
    (c.how_closed-how.ensures ∙ sym (ap (λ (t : State). how_closed t k) c.self.view_is)) c.end.ensures
    (subst (All (IsRootBelow s.tree.roots)) (sym c.close_all.ensures) (live_closed s.tree.roots c.as_slice.result.now s.map c.self.invariant.live))

pub invariant_of-self-else-op-gt0 : goal.invariant_of-self-else-op-gt0
invariant_of-self-else-op-gt0 c =
    let k = c.args.op.0 in
    let s : State = state_of c.self.inside.tree c.self.inside.roots.items (map_of c.self.inside.contents) c.self.inside.operations.items c.self.inside.graph c.self.inside.turns in
    over_stays s k c.how_closed-how.result c.end.new.self _ c.self.invariant
    (ap (λ (t : State). may_close t k) c.self.view_is ∙ c.requires)
    (c.how_closed-how.ensures ∙ sym (ap (λ (t : State). how_closed t k) c.self.view_is)) c.end.ensures c.self.invariant.live
