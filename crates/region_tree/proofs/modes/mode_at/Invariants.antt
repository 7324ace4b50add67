use Rattle.std.proofs.Common.{◌≡◌, drop}
use Rattle.region_tree.specs.Needs.{requirements_of}
use Rattle.region_tree.specs.Requirements.{join_from, mode_at, modes_at}
use Rattle.region_tree.proofs.modes.mode_at.Given as goal

abbrev pub invariant-loop-need : goal.invariant-loop-need
invariant-loop-need l =
    join_from l.joined (modes_at (requirements_of l.tree (drop l.need-index l.needs)) l.root.0
    l.field l.point)
    ≡ mode_at (requirements_of l.tree l.needs) l.root.0 l.field l.point
