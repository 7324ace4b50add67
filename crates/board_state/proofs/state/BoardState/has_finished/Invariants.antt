use Rattle.std.proofs.Common.{◌≡◌, ◌-◌, length}
use Rattle.std.specs.List.{list_all}
use Rattle.plain_values.specs.Points.{counted_from}
use Rattle.board_terms.specs.Stages.{has_finished, is_over, stage_at}
use Rattle.board_state.proofs.state.BoardState.has_finished.Given as goal

abbrev pub invariant-loop-place : goal.invariant-loop-place
invariant-loop-place l =
    list_all (λ k. is_over (stage_at l.self k)) (counted_from l.place (length l.self.operations - l.place)) ≡ has_finished l.self
