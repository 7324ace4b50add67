use Rattle.std.proofs.Common.{rules, ◌≡◌, ◌∙◌, ◌+◌, ◌-◌, ◌++◌, ◌∷◌, [], List, Option, ap, arith, subst, suc, sym}
use Rattle.logical_map.specs.Fills.{Filling}
use Rattle.run_journal.specs.declared.entry.Entry.{Entry}
use Rattle.run_journal.specs.declared.entry.StepKind.TheVariants as step
use Rattle.board_state.specs.Owed.{copies_left}
use Rattle.std.specs.Vec.{vec_capacity}
use Rattle.task_core.proofs.Readying.{claim_ready}
use Rattle.task_core.proofs.Steps.{claim_board, claim_has_made}
use Rattle.task_core.specs.Boards.{HasMade, Standing, step_by}
use Rattle.board_terms.specs.Claims.{claim_made}
use Rattle.task_core.proofs.board.Board.claim_at.Goals as goal

pub invariant_of-self-2 : goal.invariant_of-self-2
invariant_of-self-2 c =
    let more = ap (λ (f : Option Filling). c.self.inside.owed + suc (copies_left f)) c.in_ok-fill.ensures.fill in
    let counted : c.in_ok-owed.owed ≡ c.self.inside.owed + suc (suc (copies_left c.in_ok-fill.fill)) = c.in_ok-owed.ensures in
    let left : c.in_ok-owed.owed - 1 ≡ c.self.inside.owed + suc (copies_left c.in_ok-fill.fill) = omega (arith, counted) in (
      claim_board c.self.inside.job c.self.inside.journal.items c.push_reserved.new.self.items c.self.inside.state c.claim-claim.new.self
          c.self.inside.outcome c.self.inside.owed (c.in_ok-owed.owed - 1) c.args.op c.args.seat c.self.invariant.0 c.is_ready.ensures.kept
          (sym c.is_ready.ensures.ready ∙ c.if-not-is_ready.false) (search (rules))
          (c.push_reserved.ensures.items ∙ ap (λ (es : List Entry). es ++ step_by step.Claim c.args.op c.args.seat ∷ []) c.in_ok-reserve.ensures.items)
          (left ∙ more),
      (
        omega (
          arith,
          counted,
          c.self.invariant.1.0,
          c.push_reserved.ensures.len,
          c.push_reserved.ensures.capacity,
          c.in_ok-reserve.ensures.ok,
          c.in_ok-reserve.ensures.len,
          c.in_ok-reserve.ensures.capacity,
        ),
        claim_ready c.self.inside.state c.self.inside.outcome c.self.inside.said c.self.inside.text.items (vec_capacity c.self.inside.text)
            c.self.inside.images.items c.claim-claim.new.self c.args.op.0 c.args.seat (search (rules)) c.self.invariant.1.1,
      ),
    )

pub returns-clause-made : goal.returns-clause-made
returns-clause-made c =
    let b = c.self.inside in
    let moved : c.claim-claim.new.self ≡ claim_made b.state c.args.op.0 c.args.seat = search rules in
    subst (λ (x : Standing). HasMade x (step_by step.Claim c.args.op c.args.seat) (record {
      job = b.job;
      journal = c.push_reserved.new.self.items;
      state = c.claim-claim.new.self;
    })) c.self.view_is (claim_has_made b.job b.journal.items c.push_reserved.new.self.items b.state c.claim-claim.new.self c.args.op c.args.seat
    c.is_ready.ensures.kept (sym c.is_ready.ensures.ready ∙ c.if-not-is_ready.false) moved
    (c.push_reserved.ensures.items ∙ ap (λ (es : List Entry). es ++ step_by step.Claim c.args.op c.args.seat ∷ []) c.in_ok-reserve.ensures.items))
