use Rattle.regent_tree.specs.PlainProgram.{task_of, tree_of}
use Rattle.compile_tables.proofs.Adding.{places_on}
use Rattle.compile_tables.proofs.needs.Declared.places.Goals as goal

pub loop-place-preserved : goal.loop-place-preserved
loop-place-preserved c =
    places_on (tree_of c.args.self.now.tables.now) (task_of c.args.self.now.task.now) c.args.mode c.args.places.now
    c.loop-place.place-index c.place-item.result c.loop-place.needs c.place.new.needs _
    c.loop-place-test.true c.place-item.is c.in_ok-place.ensures c.loop-place.invariant
