use Rattle.std.proofs.Common.{◌≡◌, filter, map}
use Rattle.plain_values.specs.Points.{points}
use Rattle.dependence_graph.specs.Knots.{number}
use Rattle.board_terms.specs.Stages.{is_in_progress, stage_at}
use Rattle.board_state.proofs.state.BoardState.in_progress.Given as goal

abbrev pub invariant-loop-place : goal.invariant-loop-place
invariant-loop-place l = l.found.items ≡ map number (filter (λ k. is_in_progress (stage_at l.self k)) (points l.place))
