-- What is kept of an operation.
use Rattle.std.specs.Prelude.{List}
use Rattle.region_tree.specs.declared.tree.OpNumber.{OpNumber}
use Rattle.dependence_graph.specs.declared.stage.Stage.{Stage}

-- its parent, the operations that it waits for or waited for last, and its stage
pub record Knot : Type 0 where
  pub parent : OpNumber
  pub on : List OpNumber
  pub stage : Stage
