use Rattle.std.proofs.Common.{◌≡◌, drop}
use Rattle.physical_instances.specs.Kept.{map_of}
use Rattle.board_terms.specs.Calls.{are_declared}
use Rattle.board_calls.specs.Calls.{place}
use Rattle.board_calls.proofs.checking.are_declared.Given as goal

abbrev pub invariant-loop-need : goal.invariant-loop-need
invariant-loop-need l =
    are_declared (place l.tree (map_of l.contents)) (drop l.need-index l.needs) l.values
    ≡ are_declared (place l.tree (map_of l.contents)) l.needs l.values
