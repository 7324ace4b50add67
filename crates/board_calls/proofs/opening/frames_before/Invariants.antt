use Rattle.std.proofs.Common.{◌≡◌, ◌++◌, drop}
use Rattle.physical_instances.specs.Kept.{map_of}
use Rattle.board_calls.specs.Calls.{frames_in}
use Rattle.board_calls.proofs.opening.frames_before.Given as goal

abbrev pub invariant-loop-next : goal.invariant-loop-next
invariant-loop-next l =
    l.frames.items ++ frames_in l.code l.turns l.tree (map_of l.contents) l.caller (drop l.next-index l.calls)
    ≡ frames_in l.code l.turns l.tree (map_of l.contents) l.caller l.calls
