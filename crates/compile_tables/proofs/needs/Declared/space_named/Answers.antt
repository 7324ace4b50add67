use Rattle.std.proofs.Common.{rules}
use Rattle.regent_tree.specs.PlainProgram.{task_of, tree_of}
use Rattle.compile_tables.proofs.Parameters.{space_past, space_there}
use Rattle.compile_tables.proofs.needs.Declared.space_named.Goals as goal

pub returns-in-Some : goal.returns-in-Some
returns-in-Some c =
    space_there (tree_of c.args.self.now.tables.now) (task_of c.args.self.now.task.now) c.args.name.now
    c.as_slice-params.result.now c.place_in.result c.in-Some.param.now c.space_said.result
    c.as_slice-params.ensures c.place_in.ensures (search rules) c.in-Some.ensures.lookup.1 c.space_said.ensures

pub returns-in-None : goal.returns-in-None
returns-in-None c =
    space_past (tree_of c.args.self.now.tables.now) (task_of c.args.self.now.task.now) c.args.name.now
    c.as_slice-params.result.now c.place_in.result c.as_slice-params.ensures c.place_in.ensures (search rules)
