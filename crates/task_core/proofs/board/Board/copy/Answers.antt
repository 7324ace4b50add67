use Rattle.std.proofs.Common.{◌∙◌, arith, subst, sym}
use Rattle.std.specs.Vec.{vec_capacity}
use Rattle.task_core.proofs.Readying.{copy_ready}
use Rattle.task_core.proofs.Steps.{copy_board, copy_has_made}
use Rattle.run_journal.specs.declared.entry.StepKind.TheVariants as step
use Rattle.task_core.specs.Boards.{HasMade, Standing, step_by}
use Rattle.task_core.proofs.board.Board.copy.Goals as goal
use Rattle.task_core.proofs.board.Board.copy.Goals.{in-None, in-Some}

pub invariant_of-self-2 : goal.invariant_of-self-2
invariant_of-self-2 c =
    let board = copy_board c.self.inside.job c.self.inside.journal.items c.push_reserved.new.self.items c.self.inside.state c.copy.new.self
    c.self.inside.outcome c.self.inside.owed c.args.claim c.self.invariant.0 c.is_filled_by.ensures.kept
    (sym c.is_filled_by.ensures.filled ∙ c.if-not-is_filled_by.false) c.in_ok-copied.ensures.state c.push_reserved.ensures.items in (
      board.0,
      (
        omega (arith, board.1, c.self.invariant.1.0, c.push_reserved.ensures.len, c.push_reserved.ensures.capacity),
        copy_ready c.self.inside.state c.self.inside.outcome c.self.inside.said c.self.inside.text.items (vec_capacity c.self.inside.text)
            c.self.inside.images.items c.self.inside.job.code c.copy.new.self c.args.claim.op.0 c.in_ok-copied.ensures.state c.self.invariant.1.1,
      ),
    )

pub returns-clause-made : goal.returns-clause-made
returns-clause-made c =
    let b = c.self.inside in
    let made = subst (λ (x : Standing). HasMade x (step_by step.Copy c.args.claim.op c.args.claim.seat) (record {
      job = b.job;
      journal = c.push_reserved.new.self.items;
      state = c.copy.new.self;
    })) c.self.view_is (copy_has_made b.job b.journal.items c.push_reserved.new.self.items b.state c.copy.new.self c.args.claim
    c.is_filled_by.ensures.kept (sym c.is_filled_by.ensures.filled ∙ c.if-not-is_filled_by.false) c.in_ok-copied.ensures.state
    c.push_reserved.ensures.items) in
    elim c.match-copied.branch [
      | in-Some w ↦ rw w.result-is (λ e. made)
      | in-None w ↦ rw w.result-is (λ e. made)
    ]
