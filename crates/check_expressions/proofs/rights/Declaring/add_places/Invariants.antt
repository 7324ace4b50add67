use Rattle.std.proofs.Common.{◌≡◌, ◌++◌, take}
use Rattle.std.specs.Prelude.{flat_map}
use Rattle.regent_tree.specs.PlainProgram.{tree_of}
use Rattle.check_rules.specs.rules.Privileges.{rights_of_place}
use Rattle.check_expressions.proofs.rights.Declaring.add_places.Given as goal

abbrev pub invariant-loop-place : goal.invariant-loop-place
invariant-loop-place l = l.rights.items ≡ l.initial.rights.items
    ++ flat_map (rights_of_place (tree_of l.self.tables.now) l.self.params.now l.grants) (take l.place-index l.places)
