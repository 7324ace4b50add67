use Rattle.std.proofs.Common.{◌<◌, ℕ, slice_index_or}
use Rattle.region_tree.specs.Needs.{AreNeeds}
use Rattle.region_tree.specs.declared.needs.Needs.{Needs}
use Rattle.graph_rows.proofs.needs.are_all_needs.Given as goal

abbrev pub invariant-loop-needs : goal.invariant-loop-needs
invariant-loop-needs l = (k : ℕ) (d : Needs) → k < l.needs-index → AreNeeds l.forest (slice_index_or l.all k d).items
