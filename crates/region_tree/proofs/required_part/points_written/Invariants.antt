use Rattle.std.proofs.Common.{take}
use Rattle.region_tree.proofs.Dividing.{IsWithout}
use Rattle.region_tree.proofs.required_part.points_written.Given as goal

abbrev pub invariant-loop-mode : goal.invariant-loop-mode
invariant-loop-mode l =
    IsWithout l.needs l.root.0 l.field (take l.mode-index l.mode-items)
    l.points
