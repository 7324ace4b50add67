use Rattle.std.proofs.Common.{◌∙◌, arith, subst, sym}
use Rattle.std.specs.Vec.{vec_capacity}
use Rattle.task_core.proofs.Readying.{back_ready}
use Rattle.task_core.proofs.Steps.{back_board, back_has_made}
use Rattle.run_journal.specs.declared.entry.StepKind.TheVariants as step
use Rattle.task_core.specs.Boards.{HasMade, Standing, step_by}
use Rattle.task_core.proofs.board.Board.take_back.Goals as goal

pub invariant_of-self : goal.invariant_of-self
invariant_of-self c =
    let board = back_board c.self.inside.job c.self.inside.journal.items c.push_reserved.new.self.items c.self.inside.state c.take_back.new.self
    c.self.inside.outcome c.self.inside.owed c.owed_at-owed.result c.args.claim c.self.invariant.0 c.is_held_by.ensures.kept
    (sym c.is_held_by.ensures.held ∙ c.if-not-is_held_by.false) c.owed_at-owed.ensures c.take_back.ensures c.push_reserved.ensures.items in (
      board.0,
      (
        omega (arith, board.1.0, board.1.1, c.self.invariant.1.0, c.push_reserved.ensures.len, c.push_reserved.ensures.capacity),
        back_ready c.self.inside.state c.self.inside.outcome c.self.inside.said c.self.inside.text.items (vec_capacity c.self.inside.text)
            c.self.inside.images.items c.take_back.new.self c.args.claim.op.0 c.take_back.ensures c.self.invariant.1.1,
      ),
    )

pub returns-clause-made : goal.returns-clause-made
returns-clause-made c e =
    let b = c.self.inside in
    subst (λ (x : Standing). HasMade x (step_by step.Back c.args.claim.op c.args.claim.seat) (record {
      job = b.job;
      journal = c.push_reserved.new.self.items;
      state = c.take_back.new.self;
    })) c.self.view_is (back_has_made b.job b.journal.items c.push_reserved.new.self.items b.state c.take_back.new.self c.args.claim
    c.is_held_by.ensures.kept (sym c.is_held_by.ensures.held ∙ c.if-not-is_held_by.false) c.take_back.ensures c.push_reserved.ensures.items)
