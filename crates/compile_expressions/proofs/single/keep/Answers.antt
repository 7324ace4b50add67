use Rattle.std.proofs.Common.{rules}
use Rattle.compile_types.specs.Here.{where_of}
use Rattle.compile_expressions.proofs.Steps.{kept_with_steps}
use Rattle.compile_expressions.proofs.single.keep.Goals as goal

pub returns-in_ok-spare-in-Partition : goal.returns-in_ok-spare-in-Partition
returns-in_ok-spare-in-Partition c =
    rw (
      c.in-Partition.is,
      kept_with_steps (where_of c.args.here.now) c.args.depth c.in-Partition.disjoint c.in-Partition.parent
          c.in-Partition.own c.args.rest.now (search rules),
      ← c.in_ok-spare-in-Partition.ensures,
    )
    c.one.ensures
