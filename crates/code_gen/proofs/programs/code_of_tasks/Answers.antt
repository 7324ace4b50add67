use Rattle.std.proofs.Common.{◌≡◌, ◌++◌, [], ◌∷◌, map, rules}
use Rattle.regent_tree.specs.PlainProgram.{task_of, tree_of}
use Rattle.compile_types.specs.Symbols.{named_tasks}
use Rattle.code_gen.specs.Shaped.{codes_by}
use Rattle.code_gen.proofs.Codes.{codes_on}
use Rattle.code_gen.proofs.programs.code_of_tasks.Goals as goal

pub loop-task-preserved : goal.loop-task-preserved
loop-task-preserved c =
    let tree = tree_of c.args.symbols.now in
    let codes = c.loop-task.codes in
    let code = c.in_ok-code.code in
    let pushed : c.push.new.self ≡ codes ++ code ∷ [] = search rules in
    rw pushed (codes_on tree c.args.tasks.now c.loop-task.task-index c.task-item.result c.loop-task.shapes c.task_code.new.shapes
    codes code (codes_by c.args.shapes.now tree (map task_of (named_tasks c.args.tasks.now)))
    c.loop-task-test.true c.task-item.is c.in_ok-code.ensures.shapes c.in_ok-code.ensures.code c.loop-task.invariant)
