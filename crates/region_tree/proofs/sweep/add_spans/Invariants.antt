use Rattle.std.proofs.Common.{◌-◌}
use Rattle.point_sets.specs.declared.TheConstants.{POINT_LIMIT}
use Rattle.region_tree.proofs.Spanning.{IsAdding}
use Rattle.region_tree.proofs.sweep.add_spans.Given as goal

abbrev pub invariant-loop-stretch : goal.invariant-loop-stretch
invariant-loop-stretch l = IsAdding l.sets l.colour l.from l.initial.spans.items l.spans.items

abbrev pub decreases-loop-stretch : goal.decreases-loop-stretch
decreases-loop-stretch l = POINT_LIMIT - l.from
