use Rattle.std.proofs.Common.{◌≡◌, drop}
use Rattle.region_tree.specs.Needs.{requirements_of}
use Rattle.region_tree.specs.Requirements.{interfere}
use Rattle.region_tree.proofs.interference.any_conflicts.Given as goal

abbrev pub invariant-loop-need : goal.invariant-loop-need
invariant-loop-need l =
    interfere (requirements_of l.tree (drop l.need-index l.needs)) (requirements_of l.tree l.others)
    ≡ interfere (requirements_of l.tree l.needs) (requirements_of l.tree l.others)
