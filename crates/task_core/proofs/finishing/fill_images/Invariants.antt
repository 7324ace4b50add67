use Rattle.std.proofs.Common.{◌≡◌, length, map}
use Rattle.std.proofs.Math.Seq.{paste}
use Rattle.board_terms.specs.Outcomes.{image_of}
use Rattle.board_terms.specs.States.{operation_at}
use Rattle.task_core.proofs.finishing.fill_images.Given as goal

abbrev pub invariant-loop-place : goal.invariant-loop-place
invariant-loop-place l =
    (l.filled.items ≡ paste l.fn.images.items 0 (map (image_of l.state) (operation_at l.state 0).frame.own) l.place)
    × (length l.filled.items ≡ length l.fn.images.items)
