use Rattle.std.proofs.Common.{◌≡◌, drop}
use Rattle.region_tree.specs.Requirements.{join_from, mode_at, modes_at}
use Rattle.region_tree.proofs.required_within.mode_at.Given as goal

abbrev pub invariant-loop-need : goal.invariant-loop-need
invariant-loop-need l =
    join_from l.joined (modes_at (drop l.need-index l.needs) l.root.0
    l.field l.point)
    ≡ mode_at l.needs l.root.0 l.field l.point
