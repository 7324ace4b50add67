use Rattle.std.proofs.Common.{◌<◌, All, rules}
use Rattle.std.proofs.lemmas.List.Sorted.{IsNonDecreasingBy-from_sort_by_key, All-permutation}
use Rattle.point_sets.specs.declared.TheConstants.{POINT_LIMIT}
use Rattle.partitions.specs.declared.links.Link.{Link}
use Rattle.partitions.proofs.LinkLists.{LeadsBelow, links_below}
use Rattle.partitions.proofs.links.Links.new.Goals as goal

pub invariant_of-result : goal.invariant_of-result
invariant_of-result c =
    let points = c.as_slice.result.now in
    let below : All (λ x. x < POINT_LIMIT) points = rw
    (c.as_slice.ensures.value, c.in_ok-points.ensures.value) c.listed.ensures.points.below in
    record {
      ordered = IsNonDecreasingBy-from_sort_by_key
          (λ (l : Link). l.from) _ c.sort_unstable_by_key.ensures.sorted (λ a r q k. search rules);
      below = All-permutation LeadsBelow _ _ c.sort_unstable_by_key.ensures.permutation
          (rw c.in_ok-links.ensures
          (links_below c.args.direction c.args.parent.now c.args.pointers points c.args.values.now
          below));
    }
