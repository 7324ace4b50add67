use Rattle.std.proofs.Common.{◌≡◌, true, List, subst, sym, ap, ◌∙◌}
use Rattle.std.proofs.lemmas.Bool.{eqb-true}
use Rattle.std.specs.List.{list_any}
use Rattle.plain_values.specs.Points.{within}
use Rattle.region_tree.specs.Entries.{TreeNode}
use Rattle.region_tree.specs.Paths.{steps_to}
use Rattle.region_tree.specs.Trees.{set_at}
use Rattle.region_tree.specs.declared.path.Step.{Step}
use Rattle.region_tree.proofs.Growth.{within_itself}
use Rattle.region_tree.proofs.LiesUnder.{under_node}
use Rattle.region_tree.proofs.tree.Tree.lies_under.Goals as goal

pub returns-then-region-outer : goal.returns-then-region-outer
returns-then-region-outer c e =
    let same = eqb-true c.args.region.0 c.args.outer.0 e in
    subst (λ k. within (set_at c.args.self.now c.args.region.0) (set_at c.args.self.now k) ≡ true)
    same (within_itself (set_at c.args.self.now c.args.region.0))

pub returns-else-region-outer : goal.returns-else-region-outer
returns-else-region-outer c e =
    let path = c.path.ensures ∙ ap (λ (x : TreeNode). x.path) c.entry.ensures.node in
    under_node c.args.self.now c.entry.ensures.tree c.args.region.0 c.args.outer.0 c.requires.first
    (subst (λ (l : List Step). list_any (steps_to c.args.outer.0) l ≡ true) path
    (sym c.leads_to.ensures ∙ e))
