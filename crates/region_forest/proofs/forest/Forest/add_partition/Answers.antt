use Rattle.std.proofs.Common.{◌≡◌, ◌∙◌, ◌++◌, ℕ, List, ap, arith, length, subst, sym}
use Rattle.region_tree.specs.Kept.{Grows}
use Rattle.region_tree.specs.Trees.{RegionTree, IsRegion, with_partition}
use Rattle.region_forest.specs.Standings.{IsKept, partition_standings}
use Rattle.region_forest.specs.declared.standing.Standing.{Standing}
use Rattle.region_forest.proofs.Growing.{kept_partition}
use Rattle.region_forest.proofs.forest.Forest.add_partition.Goals as goal

pub invariant_of-self-2 : goal.invariant_of-self-2
invariant_of-self-2 c =
    let t = c.self.inside.tree in
    let region = c.args.region in
    let sets = c.args.sets.items in
    let node : c.in_ok-partition.partition.0 ≡ length t.nodes = c.in_ok-partition.ensures.node in
    let colours : c.len-colours.result ≡ length sets = omega (arith, c.len-colours.ensures, c.args.sets.ok.0) in
    let items : c.add_standings.new.standings.items
    ≡ c.self.inside.standings.items ++ partition_standings region (record { 0 = length t.nodes }) (length sets) =
    c.add_standings.ensures
    ∙ ap (λ (ss : List Standing). ss ++ partition_standings region c.in_ok-partition.partition c.len-colours.result) c.reserve.ensures.items
    ∙ ap (λ (n : ℕ). c.self.inside.standings.items ++ partition_standings region (record { 0 = n }) c.len-colours.result) node
    ∙ ap (λ (n : ℕ). c.self.inside.standings.items ++ partition_standings region (record { 0 = length t.nodes }) n) colours in
    subst (λ (u : RegionTree). IsKept u c.add_standings.new.standings.items) (sym c.in_ok-partition.ensures.tree)
    (subst (IsKept (with_partition t region.0 sets c.args.disjoint)) (sym items)
    (kept_partition t region sets c.args.disjoint c.self.invariant.tree
    (subst (λ (u : RegionTree). IsRegion u region.0) (sym c.self.view_is) c.requires.region)
    c.in_ok-partition.ensures.within c.in_ok-partition.ensures.apart
    (subst (Grows t) c.in_ok-partition.ensures.tree c.in_ok-partition.ensures.grows)
    c.self.inside.standings.items c.self.invariant))
