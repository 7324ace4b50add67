use Rattle.std.proofs.Common.{◌≡◌, ℕ, ◌+◌, ◌∙◌, ap, List, [], ◌∷◌, ◌++◌, subst, sym}
use Rattle.region_tree.specs.Entries.{TreeNode}
use Rattle.region_tree.specs.Kept.{IsTree}
use Rattle.region_tree.specs.Trees.{RegionTree}
use Rattle.region_tree.specs.declared.content.Content.TheVariants.{Region}
use Rattle.region_tree.proofs.Growth.{tree-with_root}
use Rattle.region_tree.proofs.tree.Tree.add_root.Goals as goal

pub invariant_of-self-2 : goal.invariant_of-self-2
invariant_of-self-2 c =
    let t : RegionTree = record
    { roots = c.self.inside.roots; nodes = c.self.inside.nodes.items } in
    let items : c.push.new.self.items ≡ t.nodes ++ record
    { root = t.roots; path = []; content = Region c.args.points } ∷ [] =
    c.in_ok-push.ensures.items ∙ ap (λ (x : TreeNode). c.self.inside.nodes.items ++ x ∷ [])
    (c.root_region-entry.ensures ∙ ap (λ (r : ℕ). record
    { root = r; path = []; content = Region c.args.points })
    (c.next.ensures.root ∙ ap (λ (u : RegionTree). u.roots) (sym c.self.view_is))) in
    subst (λ (ns : List TreeNode). IsTree (record { roots = t.roots + 1; nodes = ns })) (sym items)
    (tree-with_root t c.args.points c.self.invariant)
