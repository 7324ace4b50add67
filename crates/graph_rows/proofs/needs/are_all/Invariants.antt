use Rattle.std.proofs.Common.{◌<◌, ℕ, slice_index_or}
use Rattle.region_tree.specs.Needs.{IsNeed}
use Rattle.region_tree.specs.declared.needs.Need.{Need}
use Rattle.graph_rows.proofs.needs.are_all.Given as goal

abbrev pub invariant-loop-need : goal.invariant-loop-need
invariant-loop-need l = (k : ℕ) (d : Need) → k < l.need-index → IsNeed l.forest (slice_index_or l.needs k d)
