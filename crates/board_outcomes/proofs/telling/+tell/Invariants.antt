use Rattle.std.proofs.Common.{◌≡◌, ◌-◌, drop}
use Rattle.std.specs.Vec.{vec_capacity}
use Rattle.board_outcomes.specs.Tellings.{told_among}
use Rattle.board_terms.specs.Outcomes.{nothing_told, says_first, stop_of, woven}
use Rattle.board_outcomes.proofs.telling.+tell.Given as goal

abbrev pub decreases-tell : goal.decreases-tell
decreases-tell l = l.levels

abbrev pub invariant-loop-place : goal.invariant-loop-place
invariant-loop-place l =
    (says_first l.text.items (woven (told_among (l.levels - 1) l.operations) l.place l.said (drop l.place l.children) (nothing_told (stop_of l.operation.activity)))
    ≡ says_first l.initial.text.items (told_among l.levels l.operations l.fn.op.0))
    × (vec_capacity l.text ≡ vec_capacity l.initial.text)
