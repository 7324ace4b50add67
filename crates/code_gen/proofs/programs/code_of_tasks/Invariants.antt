use Rattle.std.proofs.Common.{◌≡◌, ◌++◌, drop, map}
use Rattle.regent_tree.specs.PlainProgram.{task_of, tree_of}
use Rattle.compile_types.specs.Symbols.{named_tasks}
use Rattle.code_gen.specs.Shaped.{codes_by}
use Rattle.code_gen.proofs.programs.code_of_tasks.Given as goal

abbrev pub invariant-loop-task : goal.invariant-loop-task
invariant-loop-task l =
    l.codes ++ codes_by l.shapes (tree_of l.symbols) (map task_of (named_tasks (drop l.task-index l.tasks)))
    ≡ codes_by l.fn.shapes (tree_of l.symbols) (map task_of (named_tasks l.tasks))
