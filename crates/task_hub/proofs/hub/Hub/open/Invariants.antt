use Rattle.std.proofs.Common.{◌≡◌, ◌+◌, vec_len}
use Rattle.std.specs.Prelude.{All}
use Rattle.plain_values.specs.Points.{points}
use Rattle.task_core.specs.Desks.{new_seat}
use Rattle.task_hub.specs.Seats.{numbers_of}
use Rattle.task_hub.proofs.hub.Hub.open.Given as goal

abbrev pub invariant-loop-number : goal.invariant-loop-number
invariant-loop-number g l =
    (l.step_share.parts + l.number ≡ l.seats) × (l.step_share.amount ≡ 0)
    × (l.over_share.parts + l.number ≡ l.seats) × (l.over_share.amount ≡ 0)
    × (vec_len l.all ≡ l.number) × (numbers_of l.all.items ≡ points l.number)
    × All (λ s. s.seated ≡ new_seat) l.all.items
    × (l.step_book.total ≡ 0) × (l.over_book.total ≡ 0)
