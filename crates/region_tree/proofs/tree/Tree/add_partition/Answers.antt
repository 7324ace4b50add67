use Rattle.std.proofs.Common.{◌≡◌, ℕ, ◌∙◌, ap, List, ◌++◌, subst, sym, true, length, Err}
use Rattle.region_tree.specs.Entries.{TreeNode}
use Rattle.region_tree.specs.Kept.{IsTree}
use Rattle.region_tree.specs.Refusals.{AreWithin, Refuses}
use Rattle.region_tree.specs.Sharing.{AreDisjoint}
use Rattle.region_tree.specs.Trees.{RegionTree, IsRegion, node_at, partition_nodes, set_at}
use Rattle.region_tree.proofs.Growth.{tree-with_partition}
use Rattle.region_tree.proofs.tree.Tree.add_partition.Goals as goal
use Rattle.std.proofs.lemmas.Result.{err_from_is_err_and}
use Rattle.region_tree.proofs.Refusing.{sharing_told}

pub invariant_of-self-2 : goal.invariant_of-self-2
invariant_of-self-2 c =
    let t : RegionTree = record
    { roots = c.self.inside.roots; nodes = c.self.inside.nodes.items } in
    let same : t ≡ c.args.self.now = c.self.view_is in
    let items : c.append.new.self.items ≡ t.nodes ++ c.in_ok-entries.entries.items =
    c.in_ok-append.ensures.items in
    let made : c.in_ok-entries.entries.items ≡ partition_nodes (node_at t c.args.region.0)
    c.args.region.0 (length t.nodes) c.args.sets.items c.args.disjoint =
    c.in_ok-entries.ensures ∙ ap (λ (x : TreeNode). partition_nodes x c.args.region.0
    c.next.result.1.0 c.args.sets.items c.args.disjoint)
    (c.entry-divided.ensures.node ∙ ap (λ (v : RegionTree). node_at v c.args.region.0)
    (sym same)) ∙ ap (λ n. partition_nodes (node_at t c.args.region.0) c.args.region.0 n
    c.args.sets.items c.args.disjoint) (c.next.ensures.node ∙
    ap (λ (v : RegionTree). length v.nodes) (sym same)) in
    let within : AreWithin (set_at t c.args.region.0) c.args.sets.items = subst
    (λ (v : RegionTree). AreWithin (set_at v c.args.region.0) c.args.sets.items) (sym same)
    (subst (λ (l : List (List ℕ)). AreWithin (set_at c.args.self.now c.args.region.0) l)
    c.deref.ensures.value (subst (λ (ps : List ℕ). AreWithin ps c.deref.result.now)
    c.set.ensures.value c.in_ok-test_partition.ensures.within)) in
    let apart : c.args.disjoint ≡ true →
    AreDisjoint c.args.sets.items = λ d. subst AreDisjoint c.deref.ensures.value
    (c.in_ok-test_partition.ensures.apart d) in
    let divided : IsRegion t c.args.region.0 = subst
    (λ (v : RegionTree). IsRegion v c.args.region.0) (sym same) c.requires.region in
    subst (λ (ns : List TreeNode). IsTree (record { roots = t.roots; nodes = ns }))
    (sym (items ∙ ap (λ (ns : List TreeNode). t.nodes ++ ns) made))
    (tree-with_partition t c.args.region.0 c.args.sets.items c.args.disjoint c.self.invariant
    divided within apart)

pub returns-in_err-test_partition-clause-shares : goal.returns-in_err-test_partition-clause-shares
returns-in_err-test_partition-clause-shares c within d some =
    let p = err_from_is_err_and c.from_residual.result c.from_residual.ensures.1 in
    let fault = c.in_err-test_partition.field-0.0 in
    let refuses : Refuses (set_at c.args.self.now c.args.region.0) c.args.sets.items c.args.disjoint
    fault = subst (λ (l : List (List ℕ)). Refuses (set_at c.args.self.now c.args.region.0) l
    c.args.disjoint fault) c.deref.ensures.value (subst
    (λ (ps : List ℕ). Refuses ps c.deref.result.now c.args.disjoint fault) c.set.ensures.value
    c.in_err-test_partition.ensures.refused) in
    rw (p.1, p.2)
    (sharing_told (set_at c.args.self.now c.args.region.0) c.args.sets.items c.args.disjoint
    (Err fault) tt refuses within d some)
