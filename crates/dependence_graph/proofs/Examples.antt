-- The worked rows, computed.
use Rattle.std.proofs.Common.{refl}
use Rattle.dependence_graph.specs.Rows.{GraphRows}

pub graph_rows : GraphRows
graph_rows = record {
  one_each = refl;
  left = refl;
  at_once = refl;
}
