use Rattle.std.proofs.Common.{◌≡◌, drop}
use Rattle.regent_tree.specs.PlainProgram.{tree_of}
use Rattle.check_rules.specs.first.FirstInItems.{first_of_said}
use Rattle.check_rules.specs.first.Rules.{first_in}
use Rattle.check_items.specs.Declaring.{declared_with}
use Rattle.check_items.proofs.declarations.check_said.Given as goal

abbrev pub invariant-loop-param : goal.invariant-loop-param
invariant-loop-param l =
    first_in (first_of_said (tree_of l.tables)) (declared_with l.names (drop l.param-index l.params))
    ≡ first_in (first_of_said (tree_of l.tables)) (declared_with l.names l.params)
