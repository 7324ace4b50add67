use Rattle.regent_tree.specs.PlainProgram.{tree_of}
use Rattle.check_rules.specs.rules.Privileges.{rights_of_place}
use Rattle.check_expressions.proofs.Granted.{added}
use Rattle.check_expressions.proofs.rights.Declaring.add_places.Goals as goal

pub loop-place-preserved : goal.loop-place-preserved
loop-place-preserved c =
    added (rights_of_place (tree_of c.args.self.now.tables.now) c.args.self.now.params.now c.args.grants.now)
    c.args.places.now c.loop-place.place-index c.place-item.result _ _ _ c.loop-place-test.true c.place-item.is
    c.loop-place.invariant c.in_ok-add_place.ensures
