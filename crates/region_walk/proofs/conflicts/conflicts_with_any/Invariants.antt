use Rattle.std.proofs.Common.{◌≡◌, ◌≤◌, drop}
use Rattle.std.specs.List.{list_any}
use Rattle.region_tree.specs.Needs.{requirement_of, requirements_of}
use Rattle.region_tree.specs.Requirements.{conflict}
use Rattle.region_walk.specs.Placing.{needs_placed}
use Rattle.region_walk.proofs.conflicts.conflicts_with_any.Given as goal

abbrev pub invariant-loop-other : goal.invariant-loop-other
invariant-loop-other g l = record {
  left : list_any (conflict (requirement_of (g.P.Paths.forest l.tree) l.need))
      (requirements_of (g.P.Paths.forest l.tree) (needs_placed (drop l.other-index l.others)))
      ≡ list_any (conflict (requirement_of (g.P.Paths.forest l.tree) l.need))
      (requirements_of (g.P.Paths.forest l.tree) (needs_placed l.others));
  steps : l.initial.steps ≤ l.steps;
}
