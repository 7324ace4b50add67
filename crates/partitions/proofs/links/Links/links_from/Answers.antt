use Rattle.std.proofs.Common.{◌-◌, ltb, leb, List, length, take, drop, ◌∙◌, refl, rules}
use Rattle.std.specs.List.Sorted.{IsNonDecreasingBy}
use Rattle.std.proofs.lemmas.List.{take_rest}
use Rattle.std.proofs.lemmas.List.Sorted.{IsPartitionPoint-from_clause, IsPartitionedBy-ltb}
use Rattle.std.proofs.lemmas.List.Sorted.{IsPartitionedBy-leb, IsNonDecreasingBy-take}
use Rattle.std.proofs.lemmas.List.Sorted.{IsNonDecreasingBy-drop}
use Rattle.partitions.specs.declared.links.Link.{Link}
use Rattle.partitions.proofs.LinkLists.{links_found}
use Rattle.partitions.proofs.links.Links.links_from.Goals as goal

pub returns : goal.returns
returns c =
    let point = c.args.point in
    let from = λ (l : Link). l.from in
    let links = c.as_slice-links.result.now in
    let first = c.partition_point-first.result in
    let count = c.partition_point-count.result in
    let rest : List Link = take (length links - first) (drop first links) in
    let ordered : IsNonDecreasingBy from links =
    rw c.as_slice-links.ensures.value c.self.invariant.ordered in
    let some = IsPartitionPoint-from_clause
    (λ (l : Link). ltb l.from point) links first c.partition_point-first.ensures.partitioned
    (IsPartitionedBy-ltb from links point ordered) (λ a r g k. search rules) in
    let more = IsPartitionPoint-from_clause
    (λ (l : Link). leb l.from point) rest count c.partition_point-count.ensures.partitioned
    (IsPartitionedBy-leb
    from rest point (IsNonDecreasingBy-take from (length links - first) (drop first links)
    (IsNonDecreasingBy-drop from first links ordered))) (λ a r g k. search rules) in
    let found = links_found links rest point first count
    (take_rest links first) c.partition_point-first.ensures.bound
    c.partition_point-count.ensures.bound some more in
    let value = c.as_slice-links.ensures.value in
    let view = c.self.view_is in
    found ∙ rw (value, view) refl
