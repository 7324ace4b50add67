use Rattle.std.proofs.Common.{rules, ◌≡◌, ◌∙◌, ap, get_or, sym}
use Rattle.std.proofs.Math.Numerals.{add-one}
use Rattle.physical_instances.specs.Kept.{map_of}
use Rattle.board_terms.specs.States.{State, operation_at}
use Rattle.board_state.specs.Kept.{state_of}
use Rattle.board_terms.specs.Claims.{fill_for}
use Rattle.board_terms.specs.Stages.{may_be_claimed}
use Rattle.board_state.proofs.Claims.{claim_stays}
use Rattle.board_state.proofs.state.BoardState.claim.Goals as goal

pub invariant_of-self : goal.invariant_of-self
invariant_of-self c =
    let k = c.args.op.0 in
    let s : State = state_of c.self.inside.tree c.self.inside.roots.items (map_of c.self.inside.contents) c.self.inside.operations.items c.self.inside.graph c.self.inside.turns in
    let there : c.index_mut.result.now ≡ get_or c.self.inside.operations.items c.args.op.0 c.index_mut.result.now = search (rules) in
    claim_stays s k c.args.seat c.index_mut.result.now c.args.fill c.begin.new.self _ c.self.invariant
    (ap (λ (t : State). may_be_claimed t k) c.self.view_is ∙ c.requires.ready) there
    (c.requires.fill ∙ sym (ap (λ (t : State). fill_for t (operation_at t k) (operation_at t k).wait) c.self.view_is))
    c.begin.ensures (add-one c.self.inside.turns)
