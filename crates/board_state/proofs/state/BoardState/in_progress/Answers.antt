use Rattle.std.proofs.Common.{rules, true, false}
use Rattle.board_terms.specs.Stages.{is_in_progress, stage_at}
use Rattle.board_state.proofs.Numbers.{found_more}
use Rattle.board_state.proofs.state.BoardState.in_progress.Goals as goal
use Rattle.board_state.proofs.state.BoardState.in_progress.Goals.{then-is_in_progress+in_ok-push, else-is_in_progress}

pub loop-place-preserved : goal.loop-place-preserved
loop-place-preserved c = elim c.if-is_in_progress.branch [
  | then-is_in_progress+in_ok-push w ↦ found_more (λ k. is_in_progress (stage_at c.args.self.now k)) c.loop-place.place c.loop-place.found.items
      c.if-is_in_progress.found.items true (search (rules)) c.loop-place.invariant (search (rules))
  | else-is_in_progress w ↦ found_more (λ k. is_in_progress (stage_at c.args.self.now k)) c.loop-place.place c.loop-place.found.items
      c.if-is_in_progress.found.items false (search (rules)) c.loop-place.invariant (search (rules))
]
