use Rattle.std.proofs.Common.{◌≡◌, ◌++◌, drop}
use Rattle.region_tree.specs.Needs.{requirements_of}
use Rattle.region_tree.proofs.needs.required_by.Given as goal

abbrev pub invariant-loop-need : goal.invariant-loop-need
invariant-loop-need l =
    l.required.items ++ requirements_of l.tree (drop l.need-index l.needs) ≡ requirements_of l.tree l.needs
