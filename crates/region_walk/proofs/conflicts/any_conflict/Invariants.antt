use Rattle.std.proofs.Common.{◌≡◌, ◌≤◌, drop}
use Rattle.region_tree.specs.Needs.{requirements_of}
use Rattle.region_tree.specs.Requirements.{interfere}
use Rattle.region_walk.specs.Placing.{needs_placed}
use Rattle.region_walk.proofs.conflicts.any_conflict.Given as goal

abbrev pub invariant-loop-need : goal.invariant-loop-need
invariant-loop-need g l = record {
  left : interfere (requirements_of (g.P.Paths.forest l.tree) (drop l.need-index l.needs))
      (requirements_of (g.P.Paths.forest l.tree) (needs_placed l.others))
      ≡ interfere (requirements_of (g.P.Paths.forest l.tree) l.needs)
      (requirements_of (g.P.Paths.forest l.tree) (needs_placed l.others));
  steps : l.initial.steps ≤ l.steps;
}
