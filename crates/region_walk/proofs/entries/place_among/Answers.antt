use Rattle.std.proofs.Common.{rules, arith}
use Rattle.std.specs.Prelude.{nat_lt}
use Rattle.std.proofs.lemmas.Bool.{ltb-false, ltb-true}
use Rattle.std.proofs.lemmas.List.Sorted.{IsPartitionPoint-from_clause, IsPartitionedBy-ltb}
use Rattle.region_walk.specs.declared.entries.Kept.{Kept}
use Rattle.region_walk.proofs.Keeping.{entries_rise}
use Rattle.region_walk.proofs.entries.place_among.Goals as goal

pub returns-clause-place : goal.returns-clause-place
returns-clause-place c =
    let point = IsPartitionPoint-from_clause (λ (k : Kept). nat_lt k.entry.op.0 c.args.op.0) _ _ c.partition_point.ensures.partitioned
    (IsPartitionedBy-ltb (λ (k : Kept). k.entry.op.0) c.args.kept.now c.args.op.0 (entries_rise c.args.kept.now c.requires.rising)) (λ a r q l. search rules) in
    record {
      before = λ i d l. ltb-true _ _ (point.0 i d (omega arith) l);
      behind = λ i d l m. ltb-false _ _ (point.1 i d l m);
    }
