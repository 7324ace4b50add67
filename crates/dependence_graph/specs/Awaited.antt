-- Operations that another one waits for.
use Rattle.std.specs.Prelude.{List}
use Rattle.region_tree.specs.declared.tree.OpNumber.{OpNumber}
use Rattle.dependence_graph.specs.declared.awaited.Awaited.{Awaited}
use Rattle.dependence_graph.specs.declared.awaited.Awaited.TheVariants.{Many, One}

abbrev pub awaited_ops : Awaited → List OpNumber
awaited_ops (One ops) = ops
awaited_ops (Many ops) = ops
