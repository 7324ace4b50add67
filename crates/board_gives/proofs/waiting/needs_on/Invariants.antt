use Rattle.std.proofs.Common.{◌≡◌, filter, take}
use Rattle.board_terms.specs.Gives.{is_on}
use Rattle.board_gives.proofs.waiting.needs_on.Given as goal

abbrev pub invariant-loop-need : goal.invariant-loop-need
invariant-loop-need l = l.items ≡ filter (is_on l.root.0 l.field) (take l.need-index l.need-items)
