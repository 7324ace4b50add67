use Rattle.std.proofs.Common.{sym, ◌∙◌}
use Rattle.point_sets.proofs.Combining.{IsPiece, all_before, so_far_kept, so_far_all}
use Rattle.point_sets.proofs.run_set.RunSet.combined.Goals as goal

pub push_run-requires-clause-above : goal.push_run-requires-clause-above
push_run-requires-clause-above c =
    all_before c.args.operation c.args.self.now c.args.o.now c.loop-piece.sweep c.loop-piece.out c.loop-piece.invariant c.in-Some.piece.first c.in-Some.ensures.first

pub loop-piece-preserved-in-Continue-branch-2 : goal.loop-piece-preserved-in-Continue-branch-2
loop-piece-preserved-in-Continue-branch-2 c =
    let piece = c.in-Some.piece in
    let part : IsPiece c.loop-piece.sweep c.next_piece.new.self piece.first piece.end piece.in_left piece.in_right = record {
      left = c.next_piece.ensures.left;
      right = c.next_piece.ensures.right;
      starts = c.in-Some.ensures.first;
      ends = c.in-Some.ensures.end;
      ahead = c.in-Some.ensures.ahead;
      even_left = c.in-Some.ensures.in_left;
      even_right = c.in-Some.ensures.in_right;
    } in
    so_far_kept c.args.operation c.args.self.now c.args.o.now c.loop-piece.sweep c.loop-piece.out c.loop-piece.invariant c.next_piece.new.self piece.first piece.end piece.in_left piece.in_right part (sym c.keeps.ensures ∙ c.if-keeps.true) c.push_run.new.self c.in_ok-push_run.ensures.ok c.push_run.ensures.points

pub returns-clause-value : goal.returns-clause-value
returns-clause-value c =
    let stop = c.in_default.ensures.none in
    so_far_all c.args.operation c.args.self.now c.args.o.now c.loop-piece.sweep c.loop-piece.out c.loop-piece.invariant stop c.as_runs.ensures.set c.as_runs-2.ensures.set
