use Rattle.std.proofs.Common.{rules, arith}
use Rattle.std.specs.Prelude.{nat_lt}
use Rattle.std.proofs.lemmas.Bool.{ltb-false, ltb-true}
use Rattle.std.proofs.lemmas.List.Sorted.{IsPartitionPoint-from_clause, IsPartitionedBy-ltb}
use Rattle.region_tree.specs.declared.tree.OpNumber.{OpNumber}
use Rattle.region_walk.proofs.Ordering.{ordered_rises}
use Rattle.region_walk.proofs.found.place_for.Goals as goal

pub returns-clause-place : goal.returns-clause-place
returns-clause-place c =
    let point = IsPartitionPoint-from_clause (λ (o : OpNumber). nat_lt o.0 c.args.op.0) _ _ c.partition_point.ensures.partitioned
    (IsPartitionedBy-ltb (λ (o : OpNumber). o.0) c.args.ops.now c.args.op.0 (ordered_rises c.args.ops.now c.requires)) (λ a r q l. search rules) in
    record {
      before = λ k d l. ltb-true _ _ (point.0 k d (omega arith) l);
      behind = λ k d l m. ltb-false _ _ (point.1 k d l m);
    }
