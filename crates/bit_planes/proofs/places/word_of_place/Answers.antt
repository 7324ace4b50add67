use Rattle.std.proofs.Common.{arith, leb, rules, ℕ}
use Rattle.std.proofs.lemmas.List.Sorted.{IsPartitionPoint-from_clause}
use Rattle.bit_planes.proofs.Totals.{few_ahead, more_behind, parted}
use Rattle.bit_planes.proofs.places.word_of_place.Goals as goal

pub returns : goal.returns
returns c =
    let ws = c.args.words.now in
    let totals = c.args.totals.now in
    let number = c.partition_point.result in
    let size = c.requires.size in
    let bound = c.partition_point.ensures.bound in
    let point = IsPartitionPoint-from_clause (λ (n : ℕ). leb n c.args.place) totals number c.partition_point.ensures.partitioned (parted ws totals c.requires c.args.place) (λ a r g k. search rules) in
    record {
      within = omega arith;
      ahead = few_ahead ws totals c.requires c.args.place number point bound;
      behind = more_behind ws totals c.requires c.args.place number point bound;
    }
