use Rattle.std.proofs.Common.{◌++◌, ◌≡◌, drop, flat_map, map}
use Rattle.regent_tree.specs.PlainProgram.{item_tree_of, tree_of}
use Rattle.regent_tree.specs.Syntax.{ItemTree}
use Rattle.check_rules.specs.first.FirstInItems.{first_in_body}
use Rattle.check_rules.specs.first.Rules.{first_in}
use Rattle.check_rules.specs.launches.Shapes.{loops}
use Rattle.check_rules.specs.scopes.Visits.{visits_of_item}
use Rattle.type_check.specs.Loops.{loops_of}
use Rattle.type_check.proofs.bodies.check_bodies.Given as goal

abbrev pub invariant-loop-item : goal.invariant-loop-item
invariant-loop-item l = record {
  told : first_in (λ (i : ItemTree). first_in_body (tree_of l.declared) i.form) (map item_tree_of (drop l.item-index l.item-items))
      ≡ first_in (λ (i : ItemTree). first_in_body (tree_of l.declared) i.form) (tree_of l.declared);
  found : l.found ++ loops_of (tree_of l.declared)
      (flat_map (λ (i : ItemTree). visits_of_item (tree_of l.declared) i.form) (map item_tree_of (drop l.item-index l.item-items)))
      ≡ loops (tree_of l.declared);
}
