use Rattle.std.proofs.Common.{◌≡◌, ◌∙◌, ◌++◌, ◌∷◌, [], List, ap, subst, sym}
use Rattle.region_tree.specs.Kept.{Grows}
use Rattle.region_tree.specs.Trees.{RegionTree, with_root}
use Rattle.region_forest.specs.Standings.{IsKept}
use Rattle.region_forest.specs.declared.standing.Standing.{Standing}
use Rattle.region_forest.specs.declared.standing.Standing.TheVariants.{Root}
use Rattle.region_forest.proofs.Growing.{kept_root}
use Rattle.region_forest.proofs.forest.Forest.add_root.Goals as goal

pub invariant_of-self-2 : goal.invariant_of-self-2
invariant_of-self-2 c =
    let t = c.self.inside.tree in
    let items : c.push_reserved.new.self.items ≡ c.self.inside.standings.items ++ Root ∷ [] =
    c.push_reserved.ensures.items ∙ ap (λ (ss : List Standing). ss ++ Root ∷ []) c.reserve.ensures.items in
    subst (λ (u : RegionTree). IsKept u c.push_reserved.new.self.items) (sym c.in_ok-made.ensures.tree)
    (subst (IsKept (with_root t c.args.points)) (sym items)
    (kept_root t c.args.points c.self.inside.standings.items c.self.invariant
    (subst (Grows t) c.in_ok-made.ensures.tree c.in_ok-made.ensures.grows)))
